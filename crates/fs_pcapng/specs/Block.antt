-- A block of a pcapng capture, as a chain of fields: type and total length, of four octets each, the body, and the
-- total length again. A section header tells the order of the octets in the numbers behind it. (The draft 'PCAP Next
-- Generation (pcapng) Capture File Format', draft-ietf-opsawg-pcapng: its sections 'General Block Structure', 'Section
-- Header Block', 'Interface Description Block', 'Enhanced Packet Block' and 'Simple Packet Block'. Blocks of other types
-- are skipped.)
use Rattle.std.specs.Prelude.{ℕ, List, [], ◌∷◌, ◌++◌, Option, Some, None, Bool, ◌+◌, ◌-◌, ◌*◌, ◌%◌, ◌==◌, ◌&&◌, length, drop, max, min, nat_le}
use Rattle.std.specs.Prelude.{nat_lt, slice_get, if◌then◌else◌}
use Rattle.byteorder.specs.Endian.{big_number}
use Rattle.fs_pcap.specs.{Head.{longest_record}, Order.{number}, declared.order.Endian.{Endian, TheVariants.{Big, Little}}}
use Rattle.fs_base.specs.{Link.{link_of}, declared.link.Link.{Link}}
use Rattle.fs_input.specs.{Reads.{whole}, Scan.{Scanner, and, fails, field, gives, needs, skips}}
use Rattle.fs_pcapng.specs.{Options.{options_in, padded, cursor}, Time.{time_of}}
use Rattle.fs_pcapng.specs.declared.block.Kind.{Kind, TheVariants.{Described, Enhanced, Simple, Other}}
use Rattle.fs_pcapng.specs.declared.fault.NgReason.{NgReason}
use Rattle.fs_pcapng.specs.declared.fault.NgReason.TheVariants.{Interface as WrongInterface, Length, Magic, RecordTooLong, TooMany, Version}
use Rattle.fs_pcapng.specs.declared.{fields.Frame.{Frame}, section.Interface.{Interface}}

-- What a capture stands in: the order that the last section header tells, the section's interfaces, and the moment of
-- the last packet.
pub record Stands : Type 0 where
  pub order : Option Endian
  pub interfaces : List Interface
  pub moment : ℕ

-- A packet. Its time is in nanoseconds since the start of 1970, and its moment is the greatest time of the packets up to
-- and with its own; its link type is known where it is one of the six that are read.
pub record Packet : Type 0 where
  pub time : ℕ
  pub moment : ℕ
  pub link : Option Link
  pub original : ℕ
  pub octets : List ℕ

-- the total length again, as the last field of a block
abbrev pub close_in : Frame → Scanner ℕ NgReason
close_in frame =
    and (field 4 (number frame.order 4))
    (λ again. needs (again == frame.total) Length (frame.start + frame.total - 4) (gives frame.total))

-- so many octets that aren't read, and the total length
abbrev pub end_in : Frame → ℕ → Scanner ℕ NgReason
end_in frame size = and (skips size) (λ _. close_in frame)

abbrev pub frame_of : Endian → (start total : ℕ) → Frame
frame_of order start total = record { order = order; start = start; total = total }

-- at least so many octets, and whole groups of four
abbrev pub allows : (least total : ℕ) → Bool
allows least total = nat_le least total && (total % 4 == 0)

-- the magic 1a2b3c4d, in either order
abbrev pub order_of : ℕ → Option Endian
order_of magic = if magic == 0x1a2b3c4d then Some Big else if magic == 0x4d3c2b1a then Some Little else None

-- major and minor version, the section's length, and what else the header holds
abbrev pub version_in : Frame → Scanner Endian NgReason
version_in frame =
    and (field 2 (number frame.order 2))
    (λ major. needs (major == 1) Version (frame.start + 12)
    (and (end_in frame (frame.total - 18)) (λ _. gives frame.order)))

abbrev pub ordered_in : (start : ℕ) → List ℕ → Option Endian → Scanner Endian NgReason
ordered_in start total None = fails Magic (start + 8)
ordered_in start total (Some order) =
    needs (allows 28 (number order 4 total)) Length (start + 4) (version_in (frame_of order start (number order 4 total)))

abbrev pub magic_behind : (start : ℕ) → List ℕ → Scanner Endian NgReason
magic_behind start total = and (field 4 (big_number 4)) (λ magic. ordered_in start total (order_of magic))

-- A section header behind its type. Its total length is judged once its magic told the order.
abbrev pub section_in : ℕ → Scanner Endian NgReason
section_in start = and (field 4 whole) (magic_behind start)

abbrev pub described_behind : Frame → List ℕ → Scanner Interface NgReason
described_behind frame head =
    and (options_in frame.order (frame.total - 20) (cursor (frame.total - 20) 6))
    (λ unit. and (close_in frame)
    (λ _. gives (record { link = number frame.order 2 head; snap = number frame.order 4 (drop 4 head); unit = unit })))

-- the description of an interface: link type, two octets, snap length, and options
abbrev pub described_in : Frame → Scanner Interface NgReason
described_in frame = and (field 8 whole) (described_behind frame)

-- so many octets of a packet, behind so many others of the block, and what else the block holds
abbrev pub octets_in : Frame → (fixed captured : ℕ) → Scanner (List ℕ) NgReason
octets_in frame fixed captured =
    and (field captured whole) (λ octets. and (end_in frame (frame.total - fixed - captured)) (λ _. gives octets))

-- a captured length, which stands at `place`: not too long, and no more than the block has room for
abbrev pub fitting : {A : Type 0} → Frame → (fixed captured place : ℕ) → Scanner A NgReason → Scanner A NgReason
fitting frame fixed captured place next =
    needs (nat_le captured longest_record) RecordTooLong place
    (needs (nat_le (fixed + padded captured) frame.total) Length (frame.start + 4) next)

-- a packet of this time, behind one of the moment `last`
abbrev pub packet : (last time link original : ℕ) → List ℕ → Packet
packet last time link original octets =
    record { time = time; moment = max last time; link = link_of link; original = original; octets = octets }

abbrev pub original_in : Frame → (last time link captured : ℕ) → Scanner Packet NgReason
original_in frame last time link captured =
    and (field 4 (number frame.order 4))
    (λ original. and (octets_in frame 32 captured) (λ octets. gives (packet last time link original octets)))

-- the time of which these are the octets: the high half stands first
abbrev pub stamped : Frame → Interface → List ℕ → ℕ
stamped frame interface octets =
    time_of interface.unit (number frame.order 4 octets * 4294967296 + number frame.order 4 (drop 4 octets))

-- the time, and the captured length
abbrev pub timed_behind : Frame → Interface → (moment : ℕ) → List ℕ → Scanner Packet NgReason
timed_behind frame interface moment octets =
    fitting frame 32 (number frame.order 4 (drop 8 octets)) (frame.start + 20)
    (original_in frame moment (stamped frame interface octets) interface.link (number frame.order 4 (drop 8 octets)))

abbrev pub timed_in : Frame → (moment : ℕ) → Option Interface → Scanner Packet NgReason
timed_in frame moment None = fails WrongInterface (frame.start + 8)
timed_in frame moment (Some interface) = and (field 12 whole) (timed_behind frame interface moment)

-- an enhanced packet
abbrev pub enhanced_in : Frame → Stands → Scanner Packet NgReason
enhanced_in frame now = and (field 4 (number frame.order 4)) (λ which. timed_in frame now.moment (slice_get now.interfaces which))

-- the least of a packet's length and the snap length, where there is one
abbrev pub cut_to : (snap original : ℕ) → ℕ
cut_to snap original = if snap == 0 then original else min original snap

abbrev pub simple_behind : Frame → Interface → (moment original : ℕ) → Scanner Packet NgReason
simple_behind frame interface moment original =
    fitting frame 16 (cut_to interface.snap original) (frame.start + 8)
    (and (octets_in frame 16 (cut_to interface.snap original)) (λ octets. gives (packet moment 0 interface.link original octets)))

abbrev pub simple_by : Frame → (moment : ℕ) → Option Interface → Scanner Packet NgReason
simple_by frame moment None = fails WrongInterface frame.start
simple_by frame moment (Some interface) = and (field 4 (number frame.order 4)) (simple_behind frame interface moment)

-- a simple packet, which is of the first interface, and of which the time is 0
abbrev pub simple_in : Frame → Stands → Scanner Packet NgReason
simple_in frame now = simple_by frame now.moment (slice_get now.interfaces 0)

abbrev pub kind_of : ℕ → Kind
kind_of number = if number == 1 then Described else if number == 6 then Enhanced else if number == 3 then Simple else Other

-- the octets of the fields that a block of this kind needs
abbrev pub least_of : Kind → ℕ
least_of Described = 20
least_of Enhanced = 32
least_of Simple = 16
least_of Other = 12

abbrev pub opened : Endian → ℕ → Stands
opened order moment = record { order = Some order; interfaces = []; moment = moment }

abbrev pub with_interface : Stands → Interface → Stands
with_interface now interface =
    record { order = now.order; interfaces = now.interfaces ++ interface ∷ []; moment = now.moment }

abbrev pub behind_packet : Stands → Packet → Stands
behind_packet now found = record { order = now.order; interfaces = now.interfaces; moment = found.moment }

-- the body of a block, the packet that it gives, and where the capture stands behind it
abbrev pub body_in : Frame → Stands → Kind → Scanner (Option Packet × Stands) NgReason
body_in frame now Described =
    needs (nat_lt (length now.interfaces) 256) TooMany frame.start
    (and (described_in frame) (λ interface. gives (None, with_interface now interface)))
body_in frame now Enhanced = and (enhanced_in frame now) (λ found. gives (Some found, behind_packet now found))
body_in frame now Simple = and (simple_in frame now) (λ found. gives (Some found, behind_packet now found))
body_in frame now Other = and (end_in frame (frame.total - 12)) (λ _. gives (None, now))

abbrev pub total_behind : (start : ℕ) → Endian → Stands → Kind → (total : ℕ) → Scanner (Option Packet × Stands) NgReason
total_behind start order now kind total =
    needs (allows (least_of kind) total) Length (start + 4) (body_in (frame_of order start total) now kind)

-- a block that is no section header
abbrev pub plain_in : (start : ℕ) → Stands → Option Endian → List ℕ → Scanner (Option Packet × Stands) NgReason
plain_in start now None kind = fails Magic start
plain_in start now (Some order) kind = and (field 4 (number order 4)) (total_behind start order now (kind_of (number order 4 kind)))

-- the type of a section header, the same in either order
abbrev pub section_header : ℕ
section_header = 0x0a0d0d0a

abbrev pub kind_behind : Stands → (start : ℕ) → List ℕ → Scanner (Option Packet × Stands) NgReason
kind_behind now start kind =
    if big_number 4 kind == section_header
    then and (section_in start) (λ order. gives (None, opened order now.moment))
    else plain_in start now now.order kind

-- a block, the packet that it gives, and where the capture stands behind it
abbrev pub block_in : Stands → Scanner (Option Packet × Stands) NgReason
block_in now place = and (field 4 whole) (kind_behind now place) place
