-- The options of an interface: code and length, of two octets each, and a value that is padded to four octets (the
-- pcapng draft's section 'Options'). The one that is read, of code 9, tells the unit of times ('if_tsresol' in its
-- section 'Interface Description Block').
use Rattle.std.specs.Prelude.{ℕ, suc, zero, List, ◌+◌, ◌-◌, ◌*◌, ◌/◌, ◌==◌, ◌&&◌, drop, nat_le, slice_index, if◌then◌else◌}
use Rattle.fs_pcap.specs.{Order.{number}, declared.order.Endian.{Endian}}
use Rattle.fs_input.specs.{Reads.{whole}, Scan.{Scanner, and, field, gives, needs, skips}}
use Rattle.fs_pcapng.specs.declared.{fault.NgReason.{NgReason, TheVariants.{Length}}, options.Cursor.{Cursor}}

-- so many octets, and those that pad them to a multiple of four
abbrev pub padded : ℕ → ℕ
padded size = (size + 3) / 4 * 4

abbrev pub cursor : (left unit : ℕ) → Cursor
cursor left unit = record { left = left; unit = unit }

-- an octet, and three that pad it
abbrev pub unit_in : Cursor → Scanner Cursor NgReason
unit_in now = and (field 4 whole) (λ octets. gives (cursor (now.left - 8) (slice_index octets 0)))

-- the value of an option: of code 9 and length 1 the unit, of others it is skipped
abbrev pub value_in : Cursor → (code size : ℕ) → Scanner Cursor NgReason
value_in now code size =
    if code == 9 && size == 1
    then unit_in now
    else and (skips (padded size)) (λ _. gives (cursor (now.left - 4 - padded size) now.unit))

abbrev pub sized_in : Cursor → (start code size : ℕ) → Scanner Cursor NgReason
sized_in now start code size = needs (nat_le (4 + padded size) now.left) Length start (value_in now code size)

abbrev pub option_behind : Endian → Cursor → (start : ℕ) → List ℕ → Scanner Cursor NgReason
option_behind order now start head = sized_in now start (number order 2 head) (number order 2 (drop 2 head))

-- one option, of those that have so many octets left; the unit as it stands behind it
abbrev pub option_in : Endian → Cursor → Scanner Cursor NgReason
option_in order now place = and (field 4 whole) (option_behind order now place) place

-- all options, and the unit behind them
abbrev pub options_in : Endian → ℕ → Cursor → Scanner ℕ NgReason
options_in order zero now = gives now.unit
options_in order (suc fuel) now = if now.left == 0 then gives now.unit else and (option_in order now) (options_in order fuel)
