-- What an end of a session comes to that is handed octets at a moment: the updates that it takes, what it answers, and
-- where it then stands. It says of whole pieces what `feed_at` does message by message.
use Rattle.std.specs.Prelude.{ℕ, List, [], ◌∷◌, ◌++◌, Option, Some, None, Ok, Err}
use Rattle.fs_base.specs.Parts.{parts_of}
use Rattle.fs_message.specs.{declared.fault.MessageFault.{MessageFault}, Stream.{Message, first_message, wrong_at}}
use Rattle.fs_attrs.specs.declared.update.Update.{Update}
use Rattle.fs_session.specs.{declared.{state.Closed.{Closed}, times.Times.{Times}}, Times.{at_moment, taken_in}, Side.{at_fault}}
use Rattle.fs_session.specs.Transition.{Machine, Phase, faulted, transition_by}

-- An end: the octets that wait for the end of their message, its phase and moments, and how it closed.
pub record Point : Type 0 where
  pub waiting : List ℕ
  pub phase : Phase
  pub times : Times
  pub closed : Option Closed

pub record Handed : Type 0 where
  pub point : Point
  pub updates : List Update
  pub text : List ℕ

abbrev pub point : List ℕ → Phase → Times → Option Closed → Point
point waiting phase times how = record { waiting = waiting; phase = phase; times = times; closed = how }

abbrev pub handed : Point → List Update → List ℕ → Handed
handed point updates text = record { point = point; updates = updates; text = text }

-- an end that closes: nothing waits any more, and a fault is answered
abbrev pub shuts : Machine → Phase → Times → Closed → Handed
shuts machine now times why = handed (point [] now times (Some why)) [] (at_fault machine.farewell why)

abbrev pub rests : Machine → Phase → Times → List ℕ → Option MessageFault → Handed
rests machine now times waiting None = handed (point waiting now times None) [] []
rests machine now times waiting (Some fault) = shuts machine now times (faulted fault)

abbrev pub updates_with : Option Update → List Update → List Update
updates_with None updates = updates
updates_with (Some update) updates = update ∷ updates

-- a message that was taken and answered, and then the rest
abbrev pub with_taken : List ℕ → Option Update → Handed → Handed
with_taken answer update later = handed later.point (updates_with update later.updates) (answer ++ later.text)

-- The messages one after the other, until one closes; if none does, a fault of the rest does.
unfoldable pub runs : Machine → Phase → Times → List Message → List ℕ → Option MessageFault → Handed
runs machine now times [] waiting wrong = rests machine now times waiting wrong
runs machine now times (message ∷ messages) waiting wrong =
    elim (transition_by machine now message) [
      | Err why ↦ shuts machine now times why
      | Ok next ↦
          with_taken (machine.answer now.state) next.1
          (runs machine next.0 (taken_in now.state times) messages waiting wrong)
    ]

abbrev pub runs_by : Machine → Phase → Times → List ℕ → Handed
runs_by machine now times octets =
    runs machine now times (parts_of first_message octets).0 (parts_of first_message octets).1
    (wrong_at (parts_of first_message octets).1)

-- A piece is handed to an end at a moment. A closed one takes nothing.
abbrev pub hand : Machine → ℕ → Point → List ℕ → Handed
hand machine moment now piece = elim now.closed [
  | Some why ↦ handed now [] []
  | None ↦ runs_by machine now.phase (at_moment moment now.times) (now.waiting ++ piece)
]
