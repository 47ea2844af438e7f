-- Which records of a dump are read, and how they are laid out (RFC 6396 sections 4.4 and 4.5).
use Rattle.std.specs.Prelude.{ℕ, List, Option, Some, None, Bool, true, false, ◌+◌, ◌==◌, if◌then◌else◌}
use Rattle.byteorder.specs.Endian.{big_number}
use Rattle.fs_base.specs.declared.{config.Address.{Address, TheVariants.{V4 as V4Address, V6 as V6Address}}, prefix.Family.{Family, TheVariants.{V4, V6}}}
use Rattle.fs_mrt.specs.declared.shape.Shape.{Shape as RecordShape}

-- subtypes: a change of state or a message, with AS numbers of two octets (0, 1) or of four (5, 4)
abbrev pub subtype_of : Bool → ℕ → Option RecordShape
subtype_of timed subtype =
    if subtype == 0 then Some (record { timed = timed; wide = false; change = true })
    else if subtype == 1 then Some (record { timed = timed; wide = false; change = false })
    else if subtype == 4 then Some (record { timed = timed; wide = true; change = false })
    else if subtype == 5 then Some (record { timed = timed; wide = true; change = true })
    else None

-- types: BGP4MP (16), and with microseconds in front of the body (17)
abbrev pub shape_of : (kind subtype : ℕ) → Option RecordShape
shape_of kind subtype =
    if kind == 16 then subtype_of false subtype else if kind == 17 then subtype_of true subtype else None

-- the octets of the microseconds, of the peer's and the local AS number, and of the interface's number
abbrev pub front_size : RecordShape → ℕ
front_size shape = (if shape.timed then 4 else 0) + (if shape.wide then 8 else 4) + 2

-- the octets of the old and the new state
abbrev pub states_size : RecordShape → ℕ
states_size shape = if shape.change then 4 else 0

abbrev pub family_of : ℕ → Option Family
family_of number = if number == 1 then Some V4 else if number == 2 then Some V6 else None

-- the octets of an address
abbrev pub address_size : Family → ℕ
address_size V4 = 4
address_size V6 = 16

abbrev pub address_of : Family → List ℕ → Address
address_of V4 octets = V4Address (big_number 4 octets)
address_of V6 octets = V6Address (big_number 16 octets)
