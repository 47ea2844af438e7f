-- What both ends of a session come to that are joined over a wire.
use Rattle.std.specs.Prelude.{◌≡◌, ◌≢◌, ◌⊎◌, ⊤, ℕ, ◌+◌, ◌*◌, ◌≤◌, ◌<◌, List, [], ◌∷◌, ◌++◌, length, map, take, if◌then◌else◌, Bool, true, false}
use Rattle.std.specs.Prelude.{Option, Some, None}
use Rattle.std.specs.List.{AllByRecursion}
use Rattle.fs_base.specs.{Sink.{Grew}, Wire.{Told, WireEnds}, declared.config.{Config.{Config}, Peer.{Peer}}}
use Rattle.fs_speaker.specs.{Announcer.{is_established, open_sent}, Handed.{Handed}, Sending.{needs_of, text_sent, update_sent}, Line.{Lined}}
use Rattle.fs_speaker.specs.{Session.{at_start, session_by, still}, Side.{announcer, receiver}, Transition.{Machine, phase}}
use Rattle.fs_speaker.specs.declared.{Sending.{Sending}, Sent.{Sent}, Closed.{Closed, TheVariants.{Fault}}}
use Rattle.fs_speaker.specs.declared.{Standing.{Standing, TheVariants.{Ended as HasEnded}}, State.TheVariants.{Established}}
use Rattle.fs_speaker.specs.JointLaws.{CanArrive}
use Rattle.fs_session.specs.declared.transition.Phase.{Phase}
use Rattle.fs_desk.specs.{Desk.{Desked}, Limit.{bounded_session}}
use Rattle.fs_peering.specs.{Opening.{opened_by}, Tell.{EndsBefore, MetLimit}}
use Rattle.fs_peering.specs.declared.tell.Ending.{Ending, TheVariants.{Done, Closed as WasClosed, Ended, AtLimit}}
use Rattle.fs_peering.specs.declared.joined.Talk.{Talk, TheVariants.{Done as AllSaid, FirstOver, SecondOver, AtLimit as MetIt, Broken}}
use Rattle.fs_peering.specs.{Joined.{AreJoined, Heard, moments_of, of_first, of_second}, Round.{Pieces, octets_in}, Hearer.{HasClosed}}
use Rattle.fs_peering.specs.{Listen.{IsReceiving}, Teller.{is_settled}, Sender.{rules_in, without_rules, woven}, Course.{course}}

-- Of these moments none lies so far behind another that a hold time could have passed between them.
abbrev pub IsTimely : Config → List ℕ → Type 0
IsTimely config moments =
    (config.hold_time ≡ 0)
    ⊎ ((first : ℕ) × AllByRecursion (λ moment. (first ≤ moment) × (moment < first + 1000 * config.hold_time)) moments)

-- a peer with this limit of routes may hold so many
abbrev pub MayHold : Option ℕ → ℕ → Type 0
MayHold None count = ⊤
MayHold (Some most) count = count ≤ most

-- Nothing hinders the rules: they can arrive, the peer may hold as many, no hold time can have passed, and each end
-- said fewer octets than the limit.
pub record IsUnhindered (config : Config) (whose : Peer) (sending : Sending) (limit : ℕ)
    (moments announced replied : List ℕ) : Type 0 where
  pub can : CanArrive config whose sending
  pub may_hold : MayHold whose.max_routes (length sending.rules)
  pub timely : IsTimely config moments
  pub announced_within : length announced < limit
  pub replied_within : length replied < limit

-- what the announcing end comes to that hears these pieces
abbrev pub told_by : Config → Sending → Pieces → Handed
told_by config sending heard = course (announcer config (needs_of sending.rules)) heard

-- The octets that the announcing end heard close it nowhere, and establish it before the limit: those behind the
-- message that does so don't count.
pub record ComesUp (config : Config) (sending : Sending) (limit : ℕ) (told : Pieces) : Type 0 where
  pub alive : (told_by config sending told).point.closed ≡ None
  pub phase : Phase
  pub behind : List ℕ
  pub found : opened_by (announcer config (needs_of sending.rules)) at_start (octets_in told) ≡ (still phase, behind)
  pub up : is_established phase.state ≡ true
  pub within : length (octets_in told) < limit + length behind

-- The announcing end said its OPEN, a KEEPALIVE, and then the UPDATEs of all rules in their order, each once, with
-- KEEPALIVEs between them: as many as it answers to the pieces that it heard, and as the clock appends. The receiving end
-- heard all of it, and took exactly the rules' updates. Neither end's octets close it, and they are fewer than the limit.
pub record Arrives (config : Config) (whose : Peer) (sending : Sending) (desk : Desked) (peer limit : ℕ)
    (heard told : Pieces) (announced replied : List ℕ) : Type 0 where
  pub receives : IsReceiving desk peer whose heard replied
  pub within : length (octets_in heard) < limit
  pub comes_up : ComesUp config sending limit told
  pub all_is : announced ≡ octets_in heard
  pub four : Bool
  pub parts : List (Option Sent)
  pub rules_are : rules_in parts ≡ sending.rules
  pub said_is : announced
      ≡ open_sent config whose sending ++ woven (text_sent config whose four sending) (None ∷ parts)
  pub kept : without_rules (None ∷ parts) ≡ (told_by config sending told).text
  pub four_is : CanArrive config whose sending → four ≡ true
  pub updates : CanArrive config whose sending
      → bounded_session config peer announced
      ≡ (map (update_sent config whose sending) sending.rules, still (phase Established true config.hold_time))

-- Nothing is in flight, each end's octets are fewer than the limit and close it nowhere, and the announcing end isn't
-- established.
pub record EndsEarly (config : Config) (whose : Peer) (sending : Sending) (desk : Desked) (peer limit : ℕ)
    (heard told : Pieces) (replied : List ℕ) (now : WireEnds) : Type 0 where
  pub receives : IsReceiving desk peer whose heard replied
  pub within : length (octets_in heard) < limit
  pub none_first : now.first.left ≡ []
  pub alive : (told_by config sending told).point.closed ≡ None
  pub down : is_established (told_by config sending told).point.phase.state ≡ false
  pub before : EndsBefore (announcer config (needs_of sending.rules)) limit (octets_in told) now.second.left

-- The octets of neither end close it, and one end heard as many as the limit. Of the announcing end none count behind
-- the message that establishes it.
pub record MeetsLimit (config : Config) (whose : Peer) (sending : Sending) (desk : Desked) (peer limit : ℕ)
    (heard told : Pieces) (replied : List ℕ) : Type 0 where
  pub receives : IsReceiving desk peer whose heard replied
  pub alive : (told_by config sending told).point.closed ≡ None
  pub met : (limit ≤ length (octets_in heard))
      ⊎ MetLimit (announcer config (needs_of sending.rules)) limit (octets_in told)

abbrev pub PairsSo : Ending → Config → Peer → Sending → Desked → (peer limit : ℕ) → List Heard
    → (announced replied : List ℕ) → WireEnds → Type 0
PairsSo Done config whose sending desk peer limit events announced replied now =
    Arrives config whose sending desk peer limit (of_first events) (of_second events) announced replied
PairsSo (WasClosed why) config whose sending desk peer limit events announced replied now =
    HasClosed config peer whose (of_first events) replied why
    ⊎ ((told_by config sending (of_second events)).point.closed ≡ Some why)
PairsSo AtLimit config whose sending desk peer limit events announced replied now =
    MeetsLimit config whose sending desk peer limit (of_first events) (of_second events) replied
PairsSo Ended config whose sending desk peer limit events announced replied now =
    EndsEarly config whose sending desk peer limit (of_first events) (of_second events) replied now

-- The ending of a session of which no more is heard: done where the announcing end is settled, an end that has closed
-- closes the session.
abbrev pub EndsTalk : Talk → Standing → Lined → Ending → Type 0
EndsTalk AllSaid standing line ending = ending ≡ (if is_settled line then Done else Ended)
EndsTalk FirstOver standing line ending = (why : Closed) → standing ≡ HasEnded why → ending ≡ WasClosed why
EndsTalk SecondOver standing line ending = (why : Closed) → line.closed ≡ Some why → ending ≡ WasClosed why
EndsTalk MetIt standing line ending = ending ≡ AtLimit
EndsTalk Broken standing line ending = ⊤

-- one of the moments is at least this
abbrev pub Reaches : ℕ → List ℕ → Type 0
Reaches least [] = ⊥
Reaches least (moment ∷ moments) = (least ≤ moment) ⊎ Reaches least moments

-- of the moments a later one lies at least so much above an earlier one
abbrev pub LieApart : ℕ → List ℕ → Type 0
LieApart least [] = ⊥
LieApart least (moment ∷ moments) = Reaches (moment + least) moments ⊎ LieApart least moments

-- The hold time of an end expired (RFC 4271, section 6.5): the octets that it took agree on one above 0, and of these
-- moments a later one lies at least so much above an earlier one.
pub record RunsLate (machine : Machine) (heard : Pieces) (moments : List ℕ) : Type 0 where
  pub taken : List ℕ
  pub untaken : List ℕ
  pub split : octets_in heard ≡ taken ++ untaken
  pub phase : Phase
  pub found : (session_by machine at_start taken).1 ≡ still phase
  pub timed : phase.hold ≢ 0
  pub apart : LieApart (1000 * phase.hold) moments

-- However it ends, the announcing end said of its OPEN, KEEPALIVEs, the UPDATEs of all rules in their order, each once,
-- only a front; and where its hold time has expired, a NOTIFICATION behind that. Without its OPEN and the UPDATEs that is
-- what it answers to the pieces that it heard, and what the clock appends.
pub record SaysFront (config : Config) (whose : Peer) (sending : Sending) (told : Pieces) (announced : List ℕ)
    : Type 0 where
  pub started : Bool
  pub four : Bool
  pub parts : List (Option Sent)
  pub appended : ℕ
  pub rules_are : rules_in parts ≡ take appended sending.rules
  pub ending : List ℕ
  pub said_is : announced
      ≡ (if started then open_sent config whose sending else [])
      ++ (woven (text_sent config whose four sending) parts ++ ending)
  pub kept : without_rules parts ++ ending ≡ (told_by config sending told).text

-- Each end heard, in pieces at these moments, of what the other said all but what is in flight, and no more than the
-- limit, and what it said was written through it. The desk has the configuration that it began with. Where nothing hinders the rules, all of them
-- arrive. It ends with Hold Timer Expired only where the hold time of an end did expire. The announcing end was open
-- behind all pieces that it heard but the last.
pub record Pairs (ending : Ending) (config : Config) (whose : Peer) (sending : Sending) (desk : Desked) (peer limit : ℕ)
    (given : List ℕ) (before now : WireEnds) : Type 0 where
  pub config_is : desk.config ≡ config
  pub events : List Heard
  pub announced : List ℕ
  pub replied : List ℕ
  pub heard_first : announced ≡ octets_in (of_first events) ++ now.first.left
  pub heard_second : replied ≡ octets_in (of_second events) ++ now.second.left
  pub within_first : length (octets_in (of_first events)) ≤ limit
  pub within_second : length (octets_in (of_second events)) ≤ limit
  pub wrote_first : now.first.written ≡ before.first.written ++ replied
  pub wrote_second : now.second.written ≡ before.second.written ++ announced
  pub asked : moments_of events ≡ given
  pub front : SaysFront config whose sending (of_second events) announced
  pub lived : (earlier : Pieces) (last : ℕ × List ℕ) → of_second events ≡ earlier ++ last ∷ []
      → (told_by config sending earlier).point.closed ≡ None
  pub arrives : IsUnhindered config whose sending limit given announced replied → ending ≡ Done
  pub late : ending ≡ WasClosed (Fault 4 0)
      → RunsLate (receiver config whose) (of_first events) given
      ⊎ RunsLate (announcer config (needs_of sending.rules)) (of_second events) given
  pub ends : PairsSo ending config whose sending desk peer limit events announced replied now

pub record PairsOver (ending : Ending) (config : Config) (whose : Peer) (sending : Sending) (desk : Desked)
    (peer limit : ℕ) (before now : Option WireEnds) (answers answers' : Option (List ℕ)) : Type 0 where
  pub given : List ℕ
  pub grew : Grew answers answers' given
  pub told : Told (λ b n. AreJoined b → Pairs ending config whose sending desk peer limit given b n) before now
