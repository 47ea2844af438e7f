-- The header of a message and its faults (RFC 4271, sections 4.1 and 6.1).
use Rattle.std.specs.{Prelude.{ℕ, Bool, not, ◌||◌, ◌==◌, nat_lt, nat_le, if◌then◌else◌, List, length, take, drop, get_or, Option, Some, None}, List.{list_any}}
use Rattle.byteorder.specs.Endian.{big_number}
use Rattle.fs_message.specs.declared.fault.MessageFault.{MessageFault}

abbrev pub fault : ℕ → ℕ → MessageFault
fault code subcode = record { code = code; subcode = subcode }

-- An octet of the marker isn't 255.
abbrev pub marker_wrong : List ℕ → Bool
marker_wrong header = list_any (λ octet. not (octet == 255)) (take 16 header)

-- The field Length, and the field Type.
abbrev pub size_at : List ℕ → ℕ
size_at header = big_number 2 (drop 16 header)

abbrev pub kind_at : List ℕ → ℕ
kind_at header = get_or header 18 0

-- A message has 19 to 4096 octets.
abbrev pub size_wrong : ℕ → Bool
size_wrong size = nat_lt size 19 || nat_lt 4096 size

-- The types are OPEN 1, UPDATE 2, NOTIFICATION 3, KEEPALIVE 4 and ROUTE-REFRESH 5 (RFC 2918).
abbrev pub kind_wrong : ℕ → Bool
kind_wrong kind = nat_lt kind 1 || nat_lt 5 kind

-- The lengths that a type allows.
abbrev pub allows : ℕ → ℕ → Bool
allows kind size =
    if kind == 1 then nat_le 29 size
    else if kind == 2 then nat_le 23 size
    else if kind == 3 then nat_le 21 size
    else if kind == 4 then size == 19
    else size == 23

-- The first field that stands whole in the header and is wrong (RFC 4271, section 6.1): a marker octet,
-- the length, the type, and then the length for this type.
abbrev pub header_fault : List ℕ → Option MessageFault
header_fault header =
    if marker_wrong header then Some (fault 1 1)
    else if nat_lt (length header) 18 then None
    else if size_wrong (size_at header) then Some (fault 1 2)
    else if nat_lt (length header) 19 then None
    else if kind_wrong (kind_at header) then Some (fault 1 3)
    else if not (allows (kind_at header) (size_at header)) then Some (fault 1 2)
    else None
