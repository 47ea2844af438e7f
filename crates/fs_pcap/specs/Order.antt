-- What a capture's magic tells: the order of the octets in its numbers, and the unit of the fractions of a second.
use Rattle.std.specs.Prelude.{ℕ, List, Option, Some, None, ◌+◌, ◌*◌, ◌==◌, if◌then◌else◌}
use Rattle.byteorder.specs.Endian.{big_number, little_number}
use Rattle.fs_pcap.specs.declared.order.{Endian.{Endian, TheVariants.{Big, Little}}, Unit.{Unit as FractionUnit, TheVariants.{Microseconds, Nanoseconds}}}

-- the number in the first octets
abbrev pub number : Endian → ℕ → List ℕ → ℕ
number Big size octets = big_number size octets
number Little size octets = little_number size octets

-- the magics a1b2c3d4 (microseconds) and a1b23c4d (nanoseconds), in either order
abbrev pub order_of : ℕ → Option (Endian × FractionUnit)
order_of magic =
    if magic == 0xa1b2c3d4 then Some (Big, Microseconds)
    else if magic == 0xa1b23c4d then Some (Big, Nanoseconds)
    else if magic == 0xd4c3b2a1 then Some (Little, Microseconds)
    else if magic == 0x4d3cb2a1 then Some (Little, Nanoseconds)
    else None

abbrev pub nanoseconds_of : FractionUnit → ℕ → ℕ
nanoseconds_of Microseconds fraction = fraction * 1000
nanoseconds_of Nanoseconds fraction = fraction

-- the time of a record, in nanoseconds since the start of 1970
abbrev pub time_of : FractionUnit → (seconds fraction : ℕ) → ℕ
time_of unit seconds fraction = seconds * 1000000000 + nanoseconds_of unit fraction
