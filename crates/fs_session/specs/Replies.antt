-- What an end of a session answers to the octets received from the other (RFC 4271, sections 6 and 8).
use Rattle.std.specs.Prelude.{ℕ, List, [], ◌∷◌, ◌++◌, Option, Some, None, Ok, Err}
use Rattle.fs_base.specs.{declared.config.{Config.{Config}, Peer.{Peer}}, Parts.{parts_of}}
use Rattle.fs_message.specs.{declared.fault.MessageFault.{MessageFault}, Stream.{Message, first_message, wrong_at}}
use Rattle.fs_session.specs.{Side.{at_fault, receiver}, Transition.{Machine, Phase, faulted, transition_by}}

-- a fault of the rest behind the last message
abbrev pub reply_rest : Machine → Option MessageFault → List ℕ
reply_rest machine None = []
reply_rest machine (Some fault) = at_fault machine.farewell (faulted fault)

-- The answers to the messages, one after the other. One that is taken is answered as the state says, and one that
-- closes as its fault is; nothing is answered behind a closing. If none closes, a fault of the rest is answered.
unfoldable pub replies : Machine → Phase → List Message → Option MessageFault → List ℕ
replies machine now [] wrong = reply_rest machine wrong
replies machine now (message ∷ messages) wrong =
    elim (transition_by machine now message) [
      | Err why ↦ at_fault machine.farewell why
      | Ok next ↦ machine.answer now.state ++ replies machine next.0 messages wrong
    ]

-- An end goes on from where it stands with all these octets.
abbrev pub replies_by : Machine → Phase → List ℕ → List ℕ
replies_by machine now octets =
    replies machine now (parts_of first_message octets).0 (wrong_at (parts_of first_message octets).1)

-- So the receiving end.
abbrev pub replies_from : Config → Peer → Phase → List ℕ → List ℕ
replies_from config peer now octets = replies_by (receiver config peer) now octets
