-- That a message and a fault of a stream stay, whatever follows them, and that what is written is read as it was.
use Rattle.std.specs.Prelude.{◌≡◌, ◌≢◌, ℕ, ◌+◌, ◌^◌, ◌<◌, ◌≤◌, true, List, ◌++◌, length, Some, Ok, Err}
use Rattle.fs_message.specs.declared.{fault.MessageFault.{MessageFault}, open_.Open.{Open}}
use Rattle.fs_message.specs.{Header.{fault, allows}, Stream.{wrong_at, first_message}, Open.{open_of}, Write.{message_text, open_body}}

-- A fault stays, whatever follows.
abbrev pub FaultStays : Type 0
FaultStays = (octets more : List ℕ) (fault : MessageFault) → wrong_at octets ≡ Some fault → wrong_at (octets ++ more) ≡ Some fault

-- A message that is written is the first message of any octets that begin with its text, and these follow it.
abbrev pub TextIsFirst : Type 0
TextIsFirst =
    (kind : ℕ) (body more : List ℕ) → 1 ≤ kind → kind ≤ 5 → allows kind (19 + length body) ≡ true → 19 + length body ≤ 4096
    → first_message (message_text kind body ++ more) ≡ Some (record { kind = kind; body = body }, more)

-- What our own OPEN says: its AS in four octets, its hold time and identifier, and all four families.
abbrev pub own_open : ℕ → ℕ → ℕ → Open
own_open asn hold_time id = record {
  asn = asn;
  hold_time = hold_time;
  id = id;
  four = true;
  v4_unicast = true;
  v4_flow = true;
  v6_unicast = true;
  v6_flow = true;
}

-- Our own OPEN is read as what it says, by who expects its AS.
abbrev pub OpenIsRead : Type 0
OpenIsRead =
    (asn hold_time id : ℕ) → asn < 2 ^ 32 → hold_time < 2 ^ 16 → id < 2 ^ 32 → 0 < asn → hold_time ≢ 1 → hold_time ≢ 2
    → 0 < id → open_of asn (open_body asn hold_time id) ≡ Ok (own_open asn hold_time id)

-- One with the identifier 0 is refused for it (RFC 4271, section 6.2).
abbrev pub UnnamedIsRefused : Type 0
UnnamedIsRefused =
    (asn hold_time id : ℕ) → asn < 2 ^ 32 → hold_time < 2 ^ 16 → id < 2 ^ 32 → 0 < asn → hold_time ≢ 1 → hold_time ≢ 2
    → id ≡ 0 → open_of asn (open_body asn hold_time id) ≡ Err (fault 2 3)
