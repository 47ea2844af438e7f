-- What the octets come to that an announcing end hears, up to and with the message that establishes its session.
use Rattle.std.specs.Prelude.{ℕ, List, [], ◌∷◌, Option, Ok, Err, if◌then◌else◌, option_map}
use Rattle.fs_base.specs.Parts.{parts_of}
use Rattle.fs_message.specs.{declared.fault.MessageFault.{MessageFault}, Stream.{Message, first_message, wrong_at}}
use Rattle.fs_speaker.specs.{Announcer.{is_established}, Session.{Last, closed, rest_closes, still}, Transition.{Machine, transition_by}}
use Rattle.fs_session.specs.declared.transition.Phase.{Phase}

-- the message at the front, with the octets behind it
abbrev pub front_message : List ℕ → Option ((Message × List ℕ) × List ℕ)
front_message octets = option_map (λ found. (found, found.1)) (first_message octets)

-- The messages one after the other, until one establishes the session or closes it; if none does, a fault of the rest
-- closes. With that the octets behind the message that establishes.
unfoldable pub opens : Machine → Phase → List (Message × List ℕ) → Option MessageFault → Last × List ℕ
opens machine now [] wrong = (rest_closes now wrong, [])
opens machine now (found ∷ later) wrong =
    elim (transition_by machine now found.0) [
      | Err why ↦ (closed why, [])
      | Ok next ↦ if is_established next.0.state then (still next.0, found.1) else opens machine next.0 later wrong
    ]

abbrev pub opened_by : Machine → Phase → List ℕ → Last × List ℕ
opened_by machine now octets =
    opens machine now (parts_of front_message octets).0 (wrong_at (parts_of front_message octets).1)
