-- What a deframer keeps, and what a call of it does with a piece of the stream.
use Rattle.std.specs.Prelude.{◌≡◌, ℕ, ◌≤◌, Bool, true, false, ⊤, if◌then◌else◌, List, [], ◌++◌, length, take, drop, Option, Some, None, Result, Ok, Err, IfSome}
use Rattle.fs_message.specs.declared.{fault.MessageFault.{MessageFault}, deframer.Frame.{Frame}}
use Rattle.fs_message.specs.Stream.{Message, message_of, wrong_at, size_of, has_message, first_message}

-- The octets of the message begun, whether they are that message whole, and the fault that stays.
pub record Framing : Type 0 where
  pub begun : List ℕ
  pub stands : Bool
  pub fault : Option MessageFault

abbrev pub framing : List ℕ → Bool → Option MessageFault → Framing
framing begun stands fault = record { begun = begun; stands = stands; fault = fault }

-- The octets that still wait for the end of their message.
abbrev pub pending : Framing → List ℕ
pending framing = if framing.stands then [] else framing.begun

-- The message that stands.
abbrev pub standing_message : Framing → Option Message
standing_message framing = if framing.stands then Some (message_of framing.begun) else None

-- Octets without a fault, and no whole message yet.
pub record IsBegun (octets : List ℕ) : Type 0 where
  pub sound : wrong_at octets ≡ None
  pub partial : has_message octets ≡ false

-- A message without a fault, whole and no longer.
pub record IsWhole (octets : List ℕ) : Type 0 where
  pub sound : wrong_at octets ≡ None
  pub headed : 19 ≤ length octets
  pub sized : length octets ≡ size_of octets

-- What the fields of a deframer are to each other.
abbrev pub IsFraming : List ℕ → Bool → Option MessageFault → Type 0
IsFraming begun true fault = (fault ≡ None) × IsWhole begun
IsFraming begun false None = IsBegun begun
IsFraming begun false (Some fault) = ⊤

-- With a piece behind the octets begun: a message ends in the piece, the whole piece is taken and none
-- does, or the octets have a fault.
abbrev pub Feeds : List ℕ → List ℕ → List ℕ → Result (ℕ × Bool) MessageFault → Type 0
Feeds begun piece new (Ok (count, true)) =
    (count ≤ length piece) × (new ≡ begun ++ take count piece)
    × (first_message (begun ++ piece) ≡ Some (message_of new, drop count piece))
Feeds begun piece new (Ok (count, false)) =
    (count ≡ length piece) × (new ≡ begun ++ piece) × IsBegun (begun ++ piece)
Feeds begun piece new (Err fault) = wrong_at (begun ++ piece) ≡ Some fault

abbrev pub stands_after : Result (ℕ × Bool) MessageFault → Bool
stands_after (Ok (count, stands)) = stands
stands_after (Err fault) = false

abbrev pub fault_after : {A : Type 0} → Result A MessageFault → Option MessageFault
fault_after (Ok _) = None
fault_after (Err fault) = Some fault

-- `pending`, of the fields.
abbrev pub pending_of : Bool → List ℕ → List ℕ
pending_of stands begun = if stands then [] else begun

-- The first octets of the room for one message are what is begun.
abbrev pub IsRoom : List ℕ → ℕ → Bool → Option MessageFault → Type 0
IsRoom held count stands fault = (length held ≡ 4096) × (count ≤ 4096) × IsFraming (take count held) stands fault

-- A fault that stays is answered again, and nothing is taken.
abbrev pub Repeats : Option MessageFault → Result (ℕ × Bool) MessageFault → (held held' : List ℕ) → (count count' : ℕ) → Type 0
Repeats fault result held held' count count' = IfSome fault (λ why. (result ≡ Err why) × (held' ≡ held) × (count' ≡ count))

-- `Feeds`, of the fields.
abbrev pub FeedsFrom : Option MessageFault → Bool → (begun piece new : List ℕ) → Result (ℕ × Bool) MessageFault → Type 0
FeedsFrom fault stands begun piece new result = fault ≡ None → Feeds (pending_of stands begun) piece new result

-- A message that is lent.
abbrev pub frame_of : Frame → Message
frame_of frame = record { kind = frame.kind; body = frame.body.now }
