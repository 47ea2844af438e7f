-- The session that the octets received from the other end make (RFC 4271, sections 6 and 8). Timers and the opening of
-- connections are left out here.
use Rattle.std.specs.Prelude.{◌≡◌, ℕ, false, List, [], ◌∷◌, ◌++◌, Option, Some, None, option_map, Result, Ok, Err, IfSome}
use Rattle.fs_base.specs.{declared.config.{Config.{Config}, Peer.{Peer}}, Config.{peer_of}, Parts.{parts_of}}
use Rattle.fs_message.specs.{declared.fault.MessageFault.{MessageFault}, Stream.{Message, first_message, wrong_at}, Deframer.{Framing, pending}}
use Rattle.fs_attrs.specs.declared.update.Update.{Update}
use Rattle.fs_session.specs.declared.{state.{State.{State, TheVariants.{WaitOpen, Closed as IsClosed}}, Closed.{Closed}}, times.Times.{Times}}
use Rattle.fs_session.specs.{Transition.{Machine, Phase, phase, faulted, transition_by}, Side.{receiver}}
use Rattle.fs_session.specs.Line.{Intake, Lined, lined, fresh, Step, step_by, DoesAt, FeedsAt, answer_of}

abbrev pub at_start : Phase
at_start = phase WaitOpen false 0

-- What a session comes to: it stands somewhere, or it closed.
pub data Last : Type 0 where
  still : Phase → Last
  closed : Closed → Last

abbrev pub with_update : Option Update → List Update × Last → List Update × Last
with_update None later = later
with_update (Some update) later = (update ∷ later.0, later.1)

-- the rest behind the last message closes where it has a fault
abbrev pub rest_closes : Phase → Option MessageFault → Last
rest_closes now None = still now
rest_closes now (Some fault) = closed (faulted fault)

-- The messages one after the other, until one closes; if none does, a fault of the rest does.
unfoldable pub plays : Machine → Phase → List Message → Option MessageFault → List Update × Last
plays machine now [] wrong = ([], rest_closes now wrong)
plays machine now (message ∷ messages) wrong =
    elim (transition_by machine now message) [
      | Err why ↦ ([], closed why)
      | Ok next ↦ with_update next.1 (plays machine next.0 messages wrong)
    ]

-- An end of a session goes on from where it stands with all these octets.
abbrev pub session_by : Machine → Phase → List ℕ → List Update × Last
session_by machine now octets =
    plays machine now (parts_of first_message octets).0 (wrong_at (parts_of first_message octets).1)

-- So the receiving end.
abbrev pub session_from : Config → Peer → Phase → List ℕ → List Update × Last
session_from config peer now octets = session_by (receiver config peer) now octets

-- What a session keeps: whose it is, the octets of the message begun, its phase, its moments, and how it closed.
pub record Live : Type 0 where
  pub config : Config
  pub peer : Peer
  pub framing : Framing
  pub phase : Phase
  pub times : Times
  pub closed : Option Closed

abbrev pub live : Config → Peer → Lined → Live
live config peer line = record {
  config = config;
  peer = peer;
  framing = line.framing;
  phase = line.phase;
  times = line.times;
  closed = line.closed;
}

abbrev pub live_in : Intake → Live
live_in intake = live intake.side.config.now intake.side.peer intake.line

-- what any end keeps
abbrev pub line_of : Live → Lined
line_of session = lined session.framing session.phase session.times session.closed

-- a session with the peer of this number, before its first octet
abbrev pub begins : Config → ℕ → Option Live
begins config number = option_map (λ peer. live config peer fresh) (peer_of number config.peers)

abbrev pub state_of : Live → State
state_of session = elim session.closed [ Some why ↦ IsClosed | None ↦ session.phase.state ]

abbrev pub step_of : Config → Peer → Phase → List ℕ → Step
step_of config peer now octets = step_by (receiver config peer) now octets

-- What a step does where no moment passes.
abbrev pub Does : Step → Live → Live → List ℕ → ℕ → Option Update → Type 0
Does step old new piece count update = DoesAt step old.times.greatest (line_of old) (line_of new) piece count update

abbrev pub reply_of : Live → Step → List ℕ
reply_of old step = answer_of (receiver old.config old.peer) old.phase.state step

abbrev pub step_with : Live → List ℕ → Step
step_with old piece = step_of old.config old.peer old.phase (pending old.framing ++ piece)

-- What a call does with a piece at a moment.
abbrev pub FeedsWhen : ℕ → Live → Live → List ℕ → List ℕ → List ℕ → Result (ℕ × Option Update) Closed → Type 0
FeedsWhen moment old new piece replies replies' result =
    FeedsAt (receiver old.config old.peer) moment (line_of old) (line_of new) piece replies replies' result

abbrev pub Feeds : Live → Live → List ℕ → List ℕ → List ℕ → Result (ℕ × Option Update) Closed → Type 0
Feeds old new piece replies replies' result = FeedsWhen old.times.greatest old new piece replies replies' result

-- A closed session answers the same again and stays as it is.
abbrev pub StaysClosed : {A : Type 0} → Live → Live → Result A Closed → (replies replies' : List ℕ) → Type 0
StaysClosed old new result replies replies' =
    IfSome old.closed (λ why. (result ≡ Err why) × (new ≡ old) × (replies' ≡ replies))

-- An open one goes on.
abbrev pub GoesOn : Live → Live → List ℕ → (replies replies' : List ℕ) → Result (ℕ × Option Update) Closed → Type 0
GoesOn old new piece replies replies' result = old.closed ≡ None → Feeds old new piece replies replies' result

abbrev pub GoesOnAt : ℕ → Live → Live → List ℕ → (replies replies' : List ℕ) → Result (ℕ × Option Update) Closed
    → Type 0
GoesOnAt moment old new piece replies replies' result =
    old.closed ≡ None → FeedsWhen moment old new piece replies replies' result
