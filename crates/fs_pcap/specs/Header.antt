-- A capture's header has 24 octets: a magic of 4, which tells the order of the octets in all numbers and the unit of the
-- fractions; the version's major and minor number, 2 each; 12 octets that aren't read; and the link type, 4, whose low
-- 16 bits count.
use Rattle.std.specs.Prelude.{ℕ, List, Some, None, ◌%◌, ◌==◌, not, length, drop, nat_lt, if◌then◌else◌}
use Rattle.byteorder.specs.Endian.{big_number}
use Rattle.fs_input.specs.declared.head.Head.{Head, TheVariants.{Whole, Wrong, Partial}}
use Rattle.fs_base.specs.Link.{link_of}
use Rattle.fs_pcap.specs.Order.{number, order_of}
use Rattle.fs_pcap.specs.declared.fault.CaptureReason.{CaptureReason, TheVariants.{Magic, Version, Link as UnreadLink}}
use Rattle.fs_pcap.specs.declared.{header.Heading.{Heading}, order.{Endian.{Endian}, Unit.{Unit as FractionUnit}}}

-- what the link type's number says
abbrev pub link_field : Endian → FractionUnit → ℕ → Head Heading CaptureReason
link_field order unit word =
    elim (link_of (word % 65536)) [
      | None ↦ Wrong UnreadLink 20
      | Some link ↦ Whole (record { order = order; unit = unit; link = link }) 0
    ]

-- what the header says behind the magic
abbrev pub ordered_header : Endian → FractionUnit → List ℕ → Head Heading CaptureReason
ordered_header order unit header =
    if nat_lt (length header) 6 then Partial
    else if not (number order 2 (drop 4 header) == 2) then Wrong Version 4
    else if nat_lt (length header) 8 then Partial
    else if not (number order 2 (drop 6 header) == 4) then Wrong Version 4
    else if nat_lt (length header) 24 then Partial
    else link_field order unit (number order 4 (drop 20 header))

-- what the first 24 octets say: all, the first field that stands whole and is wrong with its place, or too few octets
abbrev pub header_of : List ℕ → Head Heading CaptureReason
header_of header =
    if nat_lt (length header) 4 then Partial
    else elim (order_of (big_number 4 header)) [
      | None ↦ Wrong Magic 0
      | Some told ↦ ordered_header told.0 told.1 header
    ]
