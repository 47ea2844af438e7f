-- What an announcing end says over a wire, and how that ends.
use Rattle.std.specs.Prelude.{◌≡◌, ℕ, ◌+◌, ◌≤◌, ◌<◌, ◌==◌, List, [], ◌∷◌, ◌++◌, length, flat_map, true, false, if◌then◌else◌, Option, Some}
use Rattle.fs_base.specs.{declared.config.{Config.{Config}, Peer.{Peer}}, Sink.{Grew}, Wire.{Told, WireEnds}}
use Rattle.fs_speaker.specs.declared.{Closed.{Closed, TheVariants.{Fault}}, Sending.{Sending}}
use Rattle.fs_speaker.specs.{Announcer.{Announcing, announcing, is_established, open_sent}, Line.{fresh}, Sending.{needs_of, text_sent}}
use Rattle.fs_speaker.specs.{Session.{at_start, still}, Side.{announcer, notice_text}, Transition.{Machine}}
use Rattle.fs_session.specs.declared.transition.Phase.{Phase}
use Rattle.fs_peering.specs.Round.{Pieces, moments_in, octets_in}
use Rattle.fs_peering.specs.declared.tell.Ending.{Ending, TheVariants.{Done, Closed as HasClosed, Ended, AtLimit}}
use Rattle.fs_peering.specs.{Course.{course}, Opening.{opened_by}, Teller.{ClosesSo, IsInTime, IsListening}}

-- What an announcing end says before its rules that hears these pieces: its OPEN, what is answered to them, and what the
-- clock appends.
abbrev pub answers_to : Config → Peer → Sending → Pieces → List ℕ
answers_to config peer sending heard =
    open_sent config peer sending ++ (course (announcer config (needs_of sending.rules)) heard).text

-- A fault of the other end's octets is answered with its NOTIFICATION (RFC 4271, section 6). Where the hold time expired
-- (4/0), the clock has appended that already.
abbrev pub farewell_to : Closed → List ℕ
farewell_to (Fault code subcode) = if code == 4 then [] else notice_text code subcode
farewell_to other = []

-- The octets that the end heard establish its session before the limit, no hold time expired, and it said that, and its
-- rules.
pub record SaidAll (config : Config) (peer : Peer) (sending : Sending) (limit : ℕ) (heard : Pieces) (said : List ℕ)
    : Type 0 where
  pub alive : IsInTime (announcer config (needs_of sending.rules)) heard
  pub phase : Phase
  pub behind : List ℕ
  pub found : opened_by (announcer config (needs_of sending.rules)) at_start (octets_in heard) ≡ (still phase, behind)
  pub up : is_established phase.state ≡ true
  pub within : length (octets_in heard) < limit + length behind
  pub said_is : said
      ≡ answers_to config peer sending heard ++ flat_map (text_sent config peer phase.four sending) sending.rules

-- As many octets as the limit came, and they close nowhere. None of those behind the message that establishes counts.
pub record MetLimit (machine : Machine) (limit : ℕ) (octets : List ℕ) : Type 0 where
  pub phase : Phase
  pub behind : List ℕ
  pub found : opened_by machine at_start octets ≡ (still phase, behind)
  pub met : limit + length behind ≤ length octets

-- They end before the session is established.
pub record EndsBefore (machine : Machine) (limit : ℕ) (octets left : List ℕ) : Type 0 where
  pub phase : Phase
  pub found : opened_by machine at_start octets ≡ (still phase, [])
  pub down : is_established phase.state ≡ false
  pub within : length octets < limit
  pub none : left ≡ []

abbrev pub TellsSo : Ending → Config → Peer → Sending → (limit : ℕ) → Pieces → (said left : List ℕ) → Type 0
TellsSo Done config peer sending limit heard said left = SaidAll config peer sending limit heard said
TellsSo (HasClosed why) config peer sending limit heard said left =
    ((course (announcer config (needs_of sending.rules)) heard).point.closed ≡ Some why)
    × (ClosesSo (announcer config (needs_of sending.rules)) (moments_in heard) (octets_in heard) why
    × (said ≡ answers_to config peer sending heard ++ farewell_to why))
TellsSo AtLimit config peer sending limit heard said left =
    MetLimit (announcer config (needs_of sending.rules)) limit (octets_in heard)
    × ((said ≡ answers_to config peer sending heard) × IsInTime (announcer config (needs_of sending.rules)) heard)
TellsSo Ended config peer sending limit heard said left =
    EndsBefore (announcer config (needs_of sending.rules)) limit (octets_in heard) left
    × ((said ≡ answers_to config peer sending heard) × IsInTime (announcer config (needs_of sending.rules)) heard)

-- The end of the wire gave these pieces of what it had left, no more than the limit, each before the clock answered its
-- moment, and this was written through it. Behind all pieces but the last the end was open and not established.
pub record Tells (ending : Ending) (config : Config) (peer : Peer) (sending : Sending) (limit : ℕ) (given : List ℕ)
    (before now : WireEnds) : Type 0 where
  pub heard : Pieces
  pub said : List ℕ
  pub read : before.second.left ≡ octets_in heard ++ now.second.left
  pub within : length (octets_in heard) ≤ limit
  pub wrote : now.second.written ≡ before.second.written ++ said
  pub asked : moments_in heard ≡ given
  pub listened : (earlier : Pieces) (last : ℕ × List ℕ) → heard ≡ earlier ++ last ∷ []
      → IsListening (course (announcer config (needs_of sending.rules)) earlier).point
  pub ends : TellsSo ending config peer sending limit heard said now.second.left

pub record TellsOver (ending : Ending) (config : Config) (peer : Peer) (sending : Sending) (limit : ℕ)
    (before now : Option WireEnds) (answers answers' : Option (List ℕ)) : Type 0 where
  pub given : List ℕ
  pub grew : Grew answers answers' given
  pub told : Told (Tells ending config peer sending limit given) before now

-- an end before its first octet
abbrev pub begins_with : Config → Peer → Sending → Announcing
begins_with config peer sending = announcing config peer sending fresh false 0
