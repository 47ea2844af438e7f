-- What a piece of a peer's octets does to its session, to the replies and to the table.
use Rattle.std.specs.{Prelude.{◌≡◌, ◌==◌, ◌⊎◌, ℕ, List, [], ◌++◌, drop, flat_map, Bool, not, true, false, Option, Some, None}, List.{AllByRecursion}}
use Rattle.fs_base.specs.declared.config.{Config.{Config}, Peer.{Peer}}
use Rattle.fs_nlri.specs.Parts.{Ruled}
use Rattle.fs_unicast.specs.declared.unicast.Place.{Place}
use Rattle.fs_message.specs.Deframer.{pending}
use Rattle.fs_attrs.specs.{declared.update.Update.{Update}, Lists.{IsPrefix}, Update.{gives_prefixes}}
use Rattle.fs_rules.specs.Table.{Held, held_count, without_peer}
use Rattle.fs_speaker.specs.declared.{State.{State, TheVariants.{WaitOpen}}, Closed.{Closed, TheVariants.{Fault, Notified, NoFamily, Memory}}}
use Rattle.fs_speaker.specs.{Handed.{Handed, Point, point, runs_by}, Line.{waits}, Session.{at_start, Last, closed, session_from, Live, step_of}}
use Rattle.fs_speaker.specs.{Replies.{replies_from}, Side.{receiver, reply_to, reply_at}}
use Rattle.fs_desk.specs.{Apply.{Applies}, Leaves.{IsListed, unicast_at, flow_at}}
use Rattle.fs_desk.specs.Limit.{first_over, is_over, too_many, bounded_from, bounded_replies_from}
use Rattle.fs_desk.specs.Updates.{unicast_left, flow_left}

-- a session that was closed for want of memory, and not by the peer's octets
abbrev pub wants_memory : Closed → Bool
wants_memory Memory = true
wants_memory (Fault code subcode) = false
wants_memory (Notified code subcode) = false
wants_memory NoFamily = false

abbrev pub with_updates : List Update → List Update × Last → List Update × Last
with_updates updates rest = (updates ++ rest.0, rest.1)

-- Of all the octets a session has yet to take `rest`. It has taken these updates, and what it is still to make of its
-- octets in hand, of the rest, and of all that follows, is what the session of them all makes of these.
pub record Follows (config : Config) (peer : Peer) (octets rest : List ℕ) (session : Live) (updates : List Update)
    : Type 0 where
  pub alive : session.closed ≡ None
  pub config_is : session.config ≡ config
  pub peer_is : session.peer ≡ peer
  pub waiting : step_of config peer session.phase (pending session.framing) ≡ waits
  pub goes : (more : List ℕ)
      → session_from config peer at_start (octets ++ more)
      ≡ with_updates updates (session_from config peer session.phase (pending session.framing ++ (rest ++ more)))

-- The session of the octets closed so, and stays so whatever follows.
pub record IsOver (config : Config) (peer : Peer) (octets : List ℕ) (why : Closed) : Type 0 where
  pub updates : List Update
  pub stays : (more : List ℕ) → bounded_from config peer (octets ++ more) ≡ (updates, closed why)

-- Behind none of these updates the peer holds more than it may. Each gives prefixes without bits past their lengths.
pub record AreWithin (peer : Peer) (updates : List Update) : Type 0 where
  pub small : first_over peer.max_routes updates ≡ None
  pub prefixes : AllByRecursion IsPrefix (flat_map gives_prefixes updates)

-- The session has been fed with these octets. While it is open it has taken these updates; a closed one counts none.
abbrev pub IsFed : Config → Peer → List ℕ → Live → Option Closed → List Update → Type 0
IsFed config peer octets session None updates =
    Follows config peer octets [] session updates × AreWithin peer updates
IsFed config peer octets session (Some why) updates = IsOver config peer octets why × (updates ≡ [])

-- an open session has replied to the OPEN, once it has taken it, and to nothing else
abbrev pub said_in : Config → State → List ℕ
said_in config WaitOpen = []
said_in config _ = reply_to config WaitOpen

-- Of all the octets a session has yet to take `rest`. It has replied `said`, and what is still to be replied is what it
-- replies to its octets in hand, to the rest, and to all that follows.
pub record IsReplying (config : Config) (peer : Peer) (octets rest : List ℕ) (session : Live) (said : List ℕ) : Type 0
  where
    pub said_is : said ≡ said_in config session.phase.state
    pub goes : (more : List ℕ)
        → replies_from config peer at_start (octets ++ more)
        ≡ said ++ replies_from config peer session.phase (pending session.framing ++ (rest ++ more))

-- The session has been fed with these octets and has replied so. A closed one replies nothing more, whatever follows.
abbrev pub HasReplied : Config → Peer → List ℕ → Live → Option Closed → List ℕ → Type 0
HasReplied config peer octets session None said = IsReplying config peer octets [] session said
HasReplied config peer octets session (Some why) said =
    (more : List ℕ) → bounded_replies_from config peer (octets ++ more) ≡ said

-- the peer holds what these updates leave
pub record IsLeft (peer : ℕ) (updates : List Update) (held : Held) : Type 0 where
  pub unicast : (place : Place) → (place.peer == peer) ≡ true
      → unicast_at place held.unicast ≡ unicast_left place.prefix updates
  pub flows : (rule : Ruled) → flow_at rule peer held.flows ≡ flow_left rule updates

-- what other peers hold stays
pub record Spares (peer : ℕ) (old new : Held) : Type 0 where
  pub config_is : new.config ≡ old.config
  pub listed : IsListed new
  pub unicast : (place : Place) → (place.peer == peer) ≡ false
      → unicast_at place new.unicast ≡ unicast_at place old.unicast
  pub flows : (rule : Ruled) (other : ℕ) → (other == peer) ≡ false
      → flow_at rule other new.flows ≡ flow_at rule other old.flows

-- a peer of that number whose session has been fed with these octets and has replied to them, and what it holds
pub record IsUp (config : Config) (peer : Peer) (number : ℕ) (octets : List ℕ) (session : Live) (held : Held)
    : Type 0 where
  pub updates : List Update
  pub fed : IsFed config peer octets session session.closed updates
  pub replied : HasReplied config peer octets session session.closed (bounded_replies_from config peer octets)
  pub left : IsLeft number updates held

-- Of the octets all but `rest` was taken: the session follows, the peer holds what its updates leave, and other peers
-- what they held in `table`.
pub record HasTaken (config : Config) (whose : Peer) (peer : ℕ) (octets rest : List ℕ) (session : Live)
    (table now : Held) : Type 0 where
  pub updates : List Update
  pub follows : Follows config whose octets rest session updates
  pub within : AreWithin whose updates
  pub left : IsLeft peer updates now
  pub spares : Spares peer table now

-- a piece behind these octets adds to the replies what is replied to all of them beyond what is replied to those before
abbrev pub RepliesTo : Config → Peer → List ℕ → List ℕ → List ℕ → List ℕ → Type 0
RepliesTo config whose octets piece before now =
    (more : List ℕ) × (now ≡ before ++ more)
    × (bounded_replies_from config whose (octets ++ piece) ≡ bounded_replies_from config whose octets ++ more)

-- A piece, to whatever the peer sent before: the session has been fed with both, the peer holds what they leave, and
-- other peers what they held.
abbrev pub TakesPiece : ℕ → Live → Live → Held → Held → (piece before now : List ℕ) → Type 0
TakesPiece peer old new table table' piece before now =
    (config : Config) (whose : Peer) (octets : List ℕ) → IsListed table → IsUp config whose peer octets old table
    → IsUp config whose peer (octets ++ piece) new table'
    × (Spares peer table table' × RepliesTo config whose octets piece before now)

-- what was replied before still stands
abbrev pub Extends : List ℕ → List ℕ → Type 0
Extends before now = (more : List ℕ) × (now ≡ before ++ more)

-- the session has closed, and nothing of the peer is held any more
pub record HasClosed (config : Config) (whose : Peer) (octets : List ℕ) (peer : ℕ) (new : Live) (table table' : Held)
    : Type 0 where
  pub why : Closed
  pub closed : new.closed ≡ Some why
  pub over : IsOver config whose octets why
  pub left : IsLeft peer [] table'
  pub spares : Spares peer table table'

-- a message was taken; or nothing was left of the piece, or the session closed
abbrev pub MessageTaken : Config → Peer → List ℕ → ℕ → Live → Live → Held → Held → List ℕ → Option ℕ → Type 0
MessageTaken config whose octets peer old new table table' piece (Some count) =
    HasTaken config whose peer octets (drop count piece) new table table'
MessageTaken config whose octets peer old new table table' piece None =
    ((piece ≡ []) × (new ≡ old) × (table' ≡ table)) ⊎ HasClosed config whose octets peer new table table'

-- so of any octets that an open session has been fed with before
abbrev pub TakesMessage : ℕ → Live → Live → Held → Held → List ℕ → Option ℕ → Type 0
TakesMessage peer old new table table' piece taken =
    (config : Config) (whose : Peer) (octets : List ℕ) (updates : List Update)
    → Follows config whose octets piece old updates → AreWithin whose updates → IsListed table
    → IsLeft peer updates table
    → MessageTaken config whose octets peer old new table table' piece taken

-- An update was applied. Where the peer then holds no more than it may, its session stays as it is; else it is lost, and
-- its session closes with a NOTIFICATION.
pub record TakesUpdate (peer : ℕ) (update : Update) (old new : Live) (table table' : Held) (replies replies' : List ℕ)
    (open' : Bool) : Type 0 where
  pub applied : Held
  pub changes : Applies peer update table applied
  pub prefixes : AllByRecursion IsPrefix (gives_prefixes update)
  pub within : open' ≡ not (is_over old.peer.max_routes (held_count peer applied))
  pub stays : open' ≡ true → (new ≡ old) × (table' ≡ applied) × (replies' ≡ replies)
  pub ceases : open' ≡ false
      → (new.closed ≡ Some too_many) × (table' ≡ without_peer peer applied) × (replies' ≡ replies ++ reply_at too_many)

-- The session has said all: what it had said before, and what was appended to the replies since.
pub record IsReplyingMore (config : Config) (whose : Peer) (octets rest : List ℕ) (session : Live)
    (said replies replies' : List ℕ) : Type 0 where
  pub more : List ℕ
  pub grows : replies' ≡ replies ++ more
  pub replied : IsReplying config whose octets rest session (said ++ more)

-- so where nothing is left to take, or the session was closed
pub record HasRepliedMore (config : Config) (whose : Peer) (octets : List ℕ) (session : Live)
    (said replies replies' : List ℕ) : Type 0 where
  pub more : List ℕ
  pub grows : replies' ≡ replies ++ more
  pub replied : HasReplied config whose octets session session.closed (said ++ more)

-- what was replied to a message, or at a closing
abbrev pub MessageReplied : Config → Peer → List ℕ → Live → List ℕ → List ℕ → List ℕ → List ℕ → Option ℕ → Type 0
MessageReplied config whose octets new said replies replies' piece (Some count) =
    IsReplyingMore config whose octets (drop count piece) new said replies replies'
MessageReplied config whose octets new said replies replies' piece None =
    HasRepliedMore config whose octets new said replies replies'

-- so of any octets that an open session has been fed with before, and of all that it has said
abbrev pub RepliesMessage : ℕ → Live → Live → Held → List ℕ → List ℕ → List ℕ → Option ℕ → Type 0
RepliesMessage peer old new table replies replies' piece taken =
    (config : Config) (whose : Peer) (octets : List ℕ) (updates : List Update) (said : List ℕ)
    → Follows config whose octets piece old updates → AreWithin whose updates → IsListed table
    → IsLeft peer updates table → IsReplying config whose octets piece old said
    → MessageReplied config whose octets new said replies replies' piece taken

-- where a session stands, and with what moments
abbrev pub point_of : Live → Point
point_of session = point (pending session.framing) session.phase session.times session.closed

-- What a session is still to come to with these octets behind those in hand.
abbrev pub comes_to : Live → List ℕ → Handed
comes_to session rest =
    runs_by (receiver session.config session.peer) session.phase session.times (pending session.framing ++ rest)

-- Of what a session was to come to with these octets, a front was said, and the other is still to come to the rest.
pub record Comes (old : Live) (octets : List ℕ) (new : Live) (rest replies replies' : List ℕ) : Type 0 where
  pub more : List ℕ
  pub grows : replies' ≡ replies ++ more
  pub text : (comes_to old octets).text ≡ more ++ (comes_to new rest).text
  pub point_is : (comes_to old octets).point ≡ (comes_to new rest).point

-- so where a message was taken; or nothing was left of the piece, or the session closed
abbrev pub MessageComes : Live → Live → (piece replies replies' : List ℕ) → Option ℕ → Type 0
MessageComes old new piece replies replies' (Some count) =
    (new.closed ≡ None) × Comes old piece new (drop count piece) replies replies'
MessageComes old new piece replies replies' None =
    new.closed ≡ None → (piece ≡ []) × (new ≡ old) × (replies' ≡ replies)

-- of an open session
abbrev pub ComesOpen : Live → Live → (piece replies replies' : List ℕ) → Option ℕ → Type 0
ComesOpen old new piece replies replies' taken =
    old.closed ≡ None → MessageComes old new piece replies replies' taken

-- A session that is open behind a piece was so before, and has taken all of it.
abbrev pub PieceComes : Live → Live → (piece replies replies' : List ℕ) → Type 0
PieceComes old new piece replies replies' =
    new.closed ≡ None → (old.closed ≡ None) × Comes old piece new [] replies replies'
