-- When a session closes for its hold time: the moments of an end that hears pieces lie so far apart. No octets do that.
-- And what an announcing end hears up to the message that establishes its session is as the session has it.
use Rattle.std.specs.{Prelude.{◌≡◌, ◌≢◌, ◌⊎◌, ℕ, ◌*◌, ◌^◌, ◌<◌, List, [], ◌∷◌, ◌++◌, map, take, None, Some}, List.{AllByRecursion}}
use Rattle.fs_base.specs.declared.config.{Config.{Config}, Peer.{Peer}}
use Rattle.fs_desk.specs.Limit.{bounded_from}
use Rattle.fs_peering.specs.{HoldTime.{Spans}, Opening.{opened_by}, Round.{Pieces, moments_in}, Course.{course}}
use Rattle.fs_speaker.specs.{Announcer.{CanSend}, JointLaws.{IsUnnamed}, Laws.{IsSent}, Numbers.{HasOwnNumbers, IsFourOctet}, Sending.{update_sent}}
use Rattle.fs_speaker.specs.World.{run}
use Rattle.fs_speaker.specs.declared.{Sending.{Sending}, event.Event.{Event}, Closed.TheVariants.{Fault, Notified}}
use Rattle.fs_speaker.specs.{Session.{Last, closed, session_by, still}, Times.{at_moment, tick_at}, Transition.{Machine}}
use Rattle.fs_session.specs.declared.{times.Tick.TheVariants.{Expires}, transition.Phase.{Phase}}

-- Either end, wherever pieces at moments leave it open: where its hold time has expired at one moment more, it agreed on
-- one above 0, and of these moments a later one lies at least so much above an earlier one.
abbrev pub ExpiresLate : Type 0
ExpiresLate =
    (machine : Machine) (heard : Pieces) (moment : ℕ) → (course machine heard).point.closed ≡ None
    → tick_at (course machine heard).point.phase.hold (at_moment moment (course machine heard).point.times) ≡ Expires
    → ((course machine heard).point.phase.hold ≢ 0)
    × Spans (1000 * (course machine heard).point.phase.hold) (moments_in heard ++ moment ∷ [])

-- No octets close a session with Hold Timer Expired: only the clock does. So of either end with all its octets, of an
-- announcing end with those up to the message that establishes it, and of a receiving end with a limit of routes.
pub record NeverExpires : Type 0 where
  pub by_session : (machine : Machine) (now : Phase) (octets : List ℕ)
      → (session_by machine now octets).1 ≡ closed (Fault 4 0) → ⊥
  pub by_opening : (machine : Machine) (now : Phase) (octets : List ℕ)
      → (opened_by machine now octets).0 ≡ closed (Fault 4 0) → ⊥
  pub bounded : (config : Config) (peer : Peer) (octets : List ℕ)
      → (bounded_from config peer octets).1 ≡ closed (Fault 4 0) → ⊥

-- What octets come to up to the message that establishes a session, against the session of all of them: a closing there
-- closes the session so; else the session goes on with the octets behind as from the phase there.
abbrev pub OpensAs : Machine → Phase → List ℕ → Last × List ℕ → Type 0
OpensAs machine now octets (closed why, behind) = (session_by machine now octets).1 ≡ closed why
OpensAs machine now octets (still phase, behind) =
    (front : List ℕ) × ((octets ≡ front ++ behind) × ((session_by machine now octets).1 ≡ (session_by machine phase behind).1))

abbrev pub OpeningIsSession : Type 0
OpeningIsSession =
    (machine : Machine) (now : Phase) (octets : List ℕ) → OpensAs machine now octets (opened_by machine now octets)

-- The numbers and rules of a configuration and a rules file are as these have them: the numbers fit, no AS is 0, and each
-- rule is as octets say it.
pub record AreRead (config : Config) (peer : Peer) (sending : Sending) : Type 0 where
  pub own : HasOwnNumbers config
  pub asn : IsFourOctet peer.asn
  pub id : sending.id < 2 ^ 32
  pub path : AllByRecursion (λ asn. asn < 2 ^ 32) sending.as_path
  pub rules : AllByRecursion IsSent sending.rules

-- What two joined ends are given may be sent. Then whatever happens between them, and whatever the identifier is, the
-- updates taken are those of the first rules, in their order.
abbrev pub SendsFront : Type 0
SendsFront =
    (config : Config) (peer : Peer) (sending : Sending) (events : List Event) → AreRead config peer sending
    → CanSend config (Some peer) sending
    → (n : ℕ) × ((run config peer sending events).taken ≡ take n (map (update_sent config peer sending) sending.rules))

-- Where the announcing end's identifier is 0.0.0.0, the receiving end closes only by refusing it (RFC 4271, section 6.2),
-- and the announcing end only by that NOTIFICATION, whatever happens between them.
abbrev pub ClosesUnnamed : Type 0
ClosesUnnamed =
    (config : Config) (peer : Peer) (sending : Sending) (events : List Event) → IsUnnamed config peer sending
    → (((run config peer sending events).taker.closed ≡ None) ⊎ ((run config peer sending events).taker.closed ≡ Some (Fault 2 3)))
    × (((run config peer sending events).teller.closed ≡ None)
    ⊎ ((run config peer sending events).teller.closed ≡ Some (Notified 2 3)))
