-- What two joined ends come to, whatever happens between them.
use Rattle.std.specs.{Prelude.{◌≡◌, ◌⊎◌, ℕ, ◌==◌, if◌then◌else◌, Bool, true, false, List, [], ◌∷◌, ◌++◌, take, map, Option, Some, None}, List.{AllByRecursion}}
use Rattle.fs_base.specs.declared.config.{Config.{Config}, Peer.{Peer}}
use Rattle.fs_session.specs.declared.{state.Closed.{Closed, TheVariants.{Fault, Notified}}, times.Tick.TheVariants.{Expires}}
use Rattle.fs_session.specs.declared.sending.Sending.{Sending}
use Rattle.fs_session.specs.{Handed.{Point}, Laws.{ComesBack}, Sending.{update_sent}, Session.{at_start, session_from}, Times.{at_moment, tick_at}}
use Rattle.fs_speaker.specs.{declared.event.Event.{Event, TheVariants.{Deliver, Tick}}, Numbers.{HasOwnNumbers, IsFourOctet, IsHoldTime}}
use Rattle.fs_speaker.specs.World.{World, at_first, happens, run}

-- The numbers of both OPENs are as a configuration's and the rules' are, and each rule's UPDATE is read as the rule's
-- update.
pub record CanArrive (config : Config) (peer : Peer) (sending : Sending) : Type 0 where
  pub own : HasOwnNumbers config
  pub asn : IsFourOctet peer.asn
  pub id : IsFourOctet sending.id
  pub read : AllByRecursion (ComesBack config peer sending) sending.rules

-- the octets that an event hands to the receiving end while it is open
abbrev pub taken_in : Option Closed → List ℕ → List ℕ
taken_in None octets = octets
taken_in (Some why) octets = []

abbrev pub handed_over : Event → World → List ℕ
handed_over (Deliver to count moment) w = if to == 0 then taken_in w.taker.closed (take count w.to_taker) else []
handed_over _ w = []

module _ (config : Config) (peer : Peer) (sending : Sending) where
  abbrev pub delivered_on : World → List Event → List ℕ
  delivered_on w [] = []
  delivered_on w (event ∷ events) = handed_over event w ++ delivered_on (happens config peer sending event w) events

  -- all the octets that were handed to it so
  abbrev pub delivered : List Event → List ℕ
  delivered events = delivered_on (at_first config peer sending) events

-- The updates taken are exactly those of the session that these octets make, whatever the moments were.
abbrev pub TakesDelivered : Type 0
TakesDelivered =
    (config : Config) (peer : Peer) (sending : Sending) (events : List Event)
    → (run config peer sending events).taken
    ≡ (session_from config peer at_start (delivered config peer sending events)).0

-- Whatever happens, the updates taken are those of the first rules, in their order.
abbrev pub TakesFront : Type 0
TakesFront =
    (config : Config) (peer : Peer) (sending : Sending) (events : List Event) → CanArrive config peer sending
    → (n : ℕ) × ((run config peer sending events).taken ≡ take n (map (update_sent config peer sending) sending.rules))

-- one of both ends: the receiving end where this is true
abbrev pub point_of : Bool → World → Point
point_of true w = w.taker
point_of false w = w.teller

module _ (config : Config) (peer : Peer) (sending : Sending) where
  -- One of the events is a tick of an end, at a moment at which, behind the events before it, the end is open and its
  -- hold time has expired.
  pub record IsDue (first : Bool) (events : List Event) : Type 0 where
    pub earlier : List Event
    pub end : ℕ
    pub moment : ℕ
    pub later : List Event
    pub split : events ≡ earlier ++ Tick end moment ∷ later
    pub whose : (end == 0) ≡ first
    pub opened : (point_of first (run config peer sending earlier)).closed ≡ None
    pub due : tick_at (point_of first (run config peer sending earlier)).phase.hold
        (at_moment moment (point_of first (run config peer sending earlier)).times)
        ≡ Expires

  -- It is open, or closed for the time at such a tick, or closed by the other's NOTIFICATION.
  abbrev pub ClosesSo : Bool → List Event → Option Closed → Type 0
  ClosesSo first events how =
      (how ≡ None)
      ⊎ (((how ≡ Some (Fault 4 0)) × IsDue first events)
      ⊎ ((code : ℕ) × (subcode : ℕ) × (how ≡ Some (Notified code subcode))))

-- Where the rules can arrive, each end closes only so, whatever happens.
abbrev pub ClosesOnlySo : Type 0
ClosesOnlySo =
    (config : Config) (peer : Peer) (sending : Sending) (events : List Event) → CanArrive config peer sending
    → (first : Bool)
    → ClosesSo config peer sending first events (point_of first (run config peer sending events)).closed

-- And whatever the rules are, an end with such a tick among the events is closed for the time.
abbrev pub ClosesWhereDue : Type 0
ClosesWhereDue =
    (config : Config) (peer : Peer) (sending : Sending) (events : List Event) (first : Bool)
    → IsDue config peer sending first events
    → (point_of first (run config peer sending events)).closed ≡ Some (Fault 4 0)

-- The numbers of the announcing end's OPEN are as a configuration's, but its identifier is 0.0.0.0.
pub record IsUnnamed (config : Config) (peer : Peer) (sending : Sending) : Type 0 where
  pub asn : IsFourOctet peer.asn
  pub hold_time : IsHoldTime config.hold_time
  pub unnamed : sending.id ≡ 0

-- Then nothing is taken, and the receiving end closes only as above or by refusing the identifier (RFC 4271,
-- section 6.2).
abbrev pub TakesNone : Type 0
TakesNone =
    (config : Config) (peer : Peer) (sending : Sending) (events : List Event) → IsUnnamed config peer sending
    → ((run config peer sending events).taken ≡ [])
    × (ClosesSo config peer sending true events (run config peer sending events).taker.closed
    ⊎ ((run config peer sending events).taker.closed ≡ Some (Fault 2 3)))
