-- The messages of an octet stream (RFC 4271, section 4.1).
use Rattle.std.specs.{Prelude.{ℕ, ◌&&◌, nat_le, if◌then◌else◌, List, length, take, drop, get_or, Bool, Option, Some, None}, Option.{is_none}}
use Rattle.fs_message.specs.{declared.fault.MessageFault.{MessageFault}, Header.{header_fault, size_at}}

-- A message: its type, and the octets behind its header of 19.
pub record Message : Type 0 where
  pub kind : ℕ
  pub body : List ℕ

abbrev pub message_of : List ℕ → Message
message_of octets = record { kind = get_or octets 18 0; body = drop 19 octets }

-- The header, or what there is of it. Whatever follows it changes none of its faults.
abbrev pub header_of : List ℕ → List ℕ
header_of octets = take 19 octets

-- The fault of the octets where a message is to begin.
abbrev pub wrong_at : List ℕ → Option MessageFault
wrong_at octets = header_fault (header_of octets)

abbrev pub size_of : List ℕ → ℕ
size_of octets = size_at (header_of octets)

-- A message without a fault in its header stands whole at the front.
abbrev pub has_message : List ℕ → Bool
has_message octets = is_none (wrong_at octets) && (nat_le 19 (length octets) && nat_le (size_of octets) (length octets))

-- The message at the front, and what follows it. A stream's messages are the parts that this gives, and
-- the fault of its rest is `wrong_at` of what is left.
abbrev pub first_message : List ℕ → Option (Message × List ℕ)
first_message octets =
    if has_message octets then Some (message_of (take (size_of octets) octets), drop (size_of octets) octets) else None
