-- What the desk keeps, and what the items that were played make of it.
use Rattle.std.specs.Prelude.{◌≡◌, ◌≢◌, ◌==◌, ◌⊎◌, ◌&&◌, ◌||◌, not, if◌then◌else◌, ℕ, List, [], ◌∷◌, ◌++◌, Bool, true, false, Option, Some, None}
use Rattle.std.specs.{Ordering.{nat_cmp}, List.Sorted.{IsStrictlySortedBy}, Map.{lookup, keys_of}, BTreeMap.{is_at}}
use Rattle.fs_base.specs.{Config.{peer_of}, declared.config.{Config.{Config}, Peer.{Peer}}}
use Rattle.fs_rules.specs.{Changes.{Covers, Noted}, Table.{Held, held_count}}
use Rattle.fs_speaker.specs.declared.{Standing.{Standing, TheVariants.{Down, Ended}}, Closed.{Closed, TheVariants.{Fault}}}
use Rattle.fs_speaker.specs.{Handed.{hand}, Session.{Live, still}, Side.{receiver}, State.{standing_at, standing_by}}
use Rattle.fs_session.specs.declared.transition.Phase.{Phase}
use Rattle.fs_tape.specs.Tape.{Item}
use Rattle.fs_desk.specs.{Life.{bounds_life, life}, Leaves.{IsListed, nobody}, Limit.{bounded_session, bounded_replies}}
use Rattle.fs_desk.specs.{Receive.{IsLeft, IsUp, point_of}, HoldTimer.{TicksSession}, Idle.{AreIdle}}

-- the configuration, the routes held, where the admitted rules may have changed, and the sessions of the peers that are
-- up
pub record Desked : Type 0 where
  pub config : Config
  pub held : Held
  pub changes : Noted
  pub sessions : List (ℕ × Live)

abbrev pub session_at : ℕ → List (ℕ × Live) → Option Live
session_at number sessions = lookup (is_at (nat_cmp number)) sessions

-- a peer that is down holds nothing; one that is up is configured, and its session has been fed with its life's octets
abbrev pub PeerIs : Config → Option Peer → Option (List ℕ) → Option Live → ℕ → Held → Type 0
PeerIs config peer None None number held = IsLeft number [] held
PeerIs config (Some peer) (Some octets) (Some session) number held = IsUp config peer number octets session held
PeerIs config _ _ _ number held = ⊥

-- The clock has closed the session of a peer, which holds nothing any more (RFC 4271, section 6.5).
abbrev pub HasExpired : Option Live → ℕ → Held → Type 0
HasExpired None number held = ⊥
HasExpired (Some session) number held = (session.closed ≡ Some (Fault 4 0)) × IsLeft number [] held

-- so of a peer whose session has expired; what its life makes of it of any other
abbrev pub StandsAs : (expired : Bool) → Config → Option Peer → Option (List ℕ) → Option Live → ℕ → Held → Type 0
StandsAs true config peer octets session number held = HasExpired session number held
StandsAs false config peer octets session number held = PeerIs config peer octets session number held

-- The desk stands as these items leave it, but for the peers whose sessions the clock has closed.
pub record PlayedBut (expired : ℕ → Bool) (config : Config) (items : List Item) (desk : Desked) : Type 0 where
  pub config_is : desk.config ≡ config
  pub held_is : desk.held.config ≡ config
  pub listed : IsListed desk.held
  pub sessions : IsStrictlySortedBy nat_cmp (keys_of desk.sessions)
  pub each : (number : ℕ)
      → StandsAs (expired number) config (peer_of number config.peers) (life number items)
      (session_at number desk.sessions) number desk.held

-- so where the clock has closed none
abbrev pub Played : Config → List Item → Desked → Type 0
Played config items desk = PlayedBut nobody config items desk

-- A peer that comes up or is lost begins anew.
abbrev pub expired_after : Item → (ℕ → Bool) → ℕ → Bool
expired_after item expired = λ number. expired number && not (bounds_life number item)

-- the session of this peer has expired too
abbrev pub expired_with : ℕ → (ℕ → Bool) → ℕ → Bool
expired_with peer expired = λ number. (number == peer) || expired number

-- one more item was played
abbrev pub Plays : Item → Desked → Desked → Type 0
Plays item old new =
    (expired : ℕ → Bool) (config : Config) (items : List Item) → PlayedBut expired config items old
    → PlayedBut (expired_after item expired) config (items ++ item ∷ []) new

-- what has changed among the admitted rules is noted
abbrev pub Notes : Desked → Desked → Type 0
Notes old new = (base : Held) → Covers base old.changes old.held → Covers base new.changes new.held

-- What a piece of a peer's octets adds to the replies. Octets of a peer that is down are not answered. Those of one
-- that is up add what is replied to all octets of its life beyond what is replied to those before.
abbrev pub Replied : Config → ℕ → Option (List ℕ) → List ℕ → List ℕ → List ℕ → Type 0
Replied config number None piece before now = now ≡ before
Replied config number (Some octets) piece before now =
    (more : List ℕ) × (now ≡ before ++ more)
    × (bounded_replies config number (octets ++ piece) ≡ bounded_replies config number octets ++ more)

-- An expired session answers nothing.
abbrev pub RepliedBy : (expired : Bool) → Config → ℕ → Option (List ℕ) → List ℕ → List ℕ → List ℕ → Type 0
RepliedBy true config number octets piece before now = now ≡ before
RepliedBy false config number octets piece before now = Replied config number octets piece before now

-- so after whatever was played before
abbrev pub RepliesBehind : ℕ → Desked → List ℕ → List ℕ → List ℕ → Type 0
RepliesBehind peer desk piece before now =
    (expired : ℕ → Bool) (config : Config) (items : List Item) → PlayedBut expired config items desk
    → RepliedBy (expired peer) config peer (life peer items) piece before now

-- An open session that a piece leaves open stands where it is left that is handed the piece at the greatest of its
-- moments, and answers what is answered there.
pub record IsHanded (old new : Live) (piece replies replies' : List ℕ) : Type 0 where
  pub alive : old.closed ≡ None
  pub point_is : point_of new
      ≡ (hand (receiver old.config old.peer) old.times.greatest (point_of old) piece).point
  pub grows : replies'
      ≡ replies ++ (hand (receiver old.config old.peer) old.times.greatest (point_of old) piece).text

-- so of the session that a desk keeps of a peer, after whatever was played before
abbrev pub HandsPeer : ℕ → Desked → Desked → (piece replies replies' : List ℕ) → Type 0
HandsPeer peer old new piece replies replies' =
    (expired : ℕ → Bool) (config : Config) (items : List Item) (session session' : Live)
    → PlayedBut expired config items old
    → session_at peer old.sessions ≡ Some session → session_at peer new.sessions ≡ Some session'
    → session'.closed ≡ None → IsHanded session session' piece replies replies'

-- the sessions of the other peers stay as they are, after whatever was played before
abbrev pub KeepsOthers : ℕ → Desked → Desked → Type 0
KeepsOthers peer old new =
    (expired : ℕ → Bool) (config : Config) (items : List Item) → PlayedBut expired config items old
    → (number : ℕ) → (number == peer) ≡ false → session_at number new.sessions ≡ session_at number old.sessions

-- how it stands with a peer behind these items: it is down without a life, and else the session of its life's octets
-- tells
abbrev pub standing_of : Config → List Item → ℕ → Standing
standing_of config items number =
    elim (life number items) [ None ↦ Down | Some octets ↦ standing_at (bounded_session config number octets).1 ]

-- of a peer whose session has expired that it closed so
abbrev pub standing_but : (expired : ℕ → Bool) → Config → List Item → ℕ → Standing
standing_but expired config items number =
    if expired number then Ended (Fault 4 0) else standing_of config items number

-- how it stands with a peer, by the session that the desk keeps of it
abbrev pub standing_at_desk : Desked → ℕ → Standing
standing_at_desk desk number = standing_by (session_at number desk.sessions)

-- The clock at a peer, at a moment: one that is down does nothing, and the sessions of the others stay.
abbrev pub TicksPeer : ℕ → ℕ → Desked → Desked → (replies replies' : List ℕ) → Type 0
TicksPeer peer moment old new replies replies' =
    elim (session_at peer old.sessions) [
      | None ↦ (new ≡ old) × (replies' ≡ replies)
      | Some session ↦
          (session' : Live)
          × (TicksSession peer moment session session' old.held new.held replies replies'
          × ((number : ℕ)
          → session_at number new.sessions ≡ (if number == peer then Some session' else session_at number old.sessions)))
    ]

-- Unless the session with the peer closes by it, the desk stands as what was played leaves it.
abbrev pub StaysPlayed : ℕ → Desked → Desked → Type 0
StaysPlayed peer old new =
    standing_at_desk new peer ≡ standing_at_desk old peer
    → (expired : ℕ → Bool) (config : Config) (items : List Item) → PlayedBut expired config items old
    → PlayedBut expired config items new

-- Where it closes, the desk stands so but for this peer.
abbrev pub ExpiresPlayed : ℕ → Desked → Desked → Type 0
ExpiresPlayed peer old new =
    standing_at_desk new peer ≢ standing_at_desk old peer
    → (expired : ℕ → Bool) (config : Config) (items : List Item) → PlayedBut expired config items old
    → PlayedBut (expired_with peer expired) config items new

-- The octets of the peer's life leave its session open, and agree on a hold time.
pub record HasHoldTime (config : Config) (items : List Item) (peer : ℕ) : Type 0 where
  pub octets : List ℕ
  pub life_is : life peer items ≡ Some octets
  pub phase : Phase
  pub found : (bounded_session config peer octets).1 ≡ still phase
  pub timed : phase.hold ≢ 0

-- Where it closes, the hold time has expired that the peer's octets agreed on.
abbrev pub ExpiresSo : ℕ → Desked → Desked → Type 0
ExpiresSo peer old new =
    standing_at_desk new peer ≢ standing_at_desk old peer
    → (standing_at_desk new peer ≡ Ended (Fault 4 0))
    × ((expired : ℕ → Bool) (config : Config) (items : List Item) → PlayedBut expired config items old
    → HasHoldTime config items peer)

-- the session with the peer hasn't closed, or the peer held nothing
abbrev pub LosesNothing : ℕ → Desked → Desked → Type 0
LosesNothing peer old new =
    ((why : Closed) → standing_at_desk new peer ≡ Ended why → standing_at_desk old peer ≡ Ended why)
    ⊎ (held_count peer old.held ≡ 0)

-- Where the messages that a piece completes announce and withdraw nothing, no change is noted.
abbrev pub IdlesOctets : ℕ → List ℕ → Desked → Desked → Type 0
IdlesOctets peer piece old new =
    ((session : Live) → session_at peer old.sessions ≡ Some session → session.closed ≡ None → AreIdle session piece)
    → LosesNothing peer old new → new.changes ≡ old.changes

-- so where the clock closes nothing that holds routes
abbrev pub IdlesTick : ℕ → Desked → Desked → Type 0
IdlesTick peer old new = LosesNothing peer old new → new.changes ≡ old.changes
