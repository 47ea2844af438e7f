-- Connections that were taken and wait for their OPEN before they speak for a peer; and when the clock was last heard of all.
use Rattle.std.specs.Prelude.{ℕ, List, [], ◌∷◌, ◌++◌, ◌-◌, ◌==◌, Bool, Option, Some, None, drop, find, filter, get_or, length, map, not, nat_lt, if◌then◌else◌}
use Rattle.byteorder.specs.Endian.{big_number}
use Rattle.fs_recorder.specs.declared.door.Guest.{Guest}

-- The AS in the own field of an OPEN that stands at the front of a piece, as far as that field (RFC 4271, section 4.2).
abbrev pub said_as : (piece : List ℕ) → Option ℕ
said_as piece =
    if nat_lt (length piece) 22 then None
    else if get_or piece 18 0 == 1 then Some (big_number 2 (drop 20 piece))
    else None

-- A connection has so many milliseconds to be established (RFC 4271, section 8.2.2).
abbrev pub open_time : ℕ
open_time = 240000

-- so many milliseconds lie between the clock's hearings of all connections
abbrev pub sweep_time : ℕ
sweep_time = 500

abbrev pub is_due : (swept time : ℕ) → Bool
is_due swept time = not (nat_lt (time - swept) sweep_time)

-- When the clock was last heard of all, and which connections wait, in the order in which they were taken.
pub record AtDoor : Type 0 where
  pub swept : ℕ
  pub guests : List Guest

-- none waits
abbrev pub empty_door : AtDoor
empty_door = record { swept = 0; guests = [] }

-- the one of this line
abbrev pub guest_of : ℕ → List Guest → Option Guest
guest_of line guests = find (λ (guest : Guest). guest.line == line) guests

-- one more waits
abbrev pub with_guest : Guest → AtDoor → AtDoor
with_guest guest door = record door { guests = door.guests ++ guest ∷ [] }

-- the one of this line waits no more
abbrev pub without_guest : ℕ → AtDoor → AtDoor
without_guest line door = record door { guests = filter (λ (guest : Guest). not (guest.line == line)) door.guests }

-- whether one has time left
abbrev pub has_time : (time : ℕ) → Guest → Bool
has_time time guest = nat_lt (time - guest.since) open_time

-- the lines of those that have none
abbrev pub late_lines : (time : ℕ) → List Guest → List ℕ
late_lines time guests = map (λ (guest : Guest). guest.line) (filter (λ (guest : Guest). not (has_time time guest)) guests)

-- behind the clock those wait that have
abbrev pub swept_at : (time : ℕ) → AtDoor → AtDoor
swept_at time door = record { swept = time; guests = filter (λ (guest : Guest). has_time time guest) door.guests }

abbrev pub swept_where_due : (time : ℕ) → AtDoor → AtDoor
swept_where_due time door = if is_due door.swept time then swept_at time door else door
