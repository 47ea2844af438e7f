-- A block as it stands in a capture, field by field (the pcapng draft's sections 'General Block Structure', 'Section
-- Header Block', 'Interface Description Block', 'Options', 'Enhanced Packet Block' and 'Simple Packet Block'), and what it
-- gives.
use Rattle.std.specs.Prelude.{ℕ, List, [], ◌∷◌, ◌++◌, Option, Some, None, false, ◌≡◌, ◌≤◌, ◌<◌, ◌+◌, ◌*◌, ◌%◌, ◌==◌, ◌&&◌, length, flat_map}
use Rattle.std.specs.Prelude.{slice_get, slice_index, if◌then◌else◌}
use Rattle.std.specs.List.{AllByRecursion}
use Rattle.byteorder.specs.Endian.{big_number}
use Rattle.fs_pcap.specs.{Head.{longest_record}, Order.{number}, declared.order.Endian.{Endian}}
use Rattle.fs_pcapng.specs.Block.{Packet, Stands, behind_packet, cut_to, kind_of, opened, order_of, packet, section_header, with_interface}
use Rattle.fs_pcapng.specs.{Options.{padded}, Time.{time_of}}
use Rattle.fs_pcapng.specs.declared.{block.Kind.{Kind, TheVariants.{Described, Enhanced, Simple, Other}}, section.Interface.{Interface}}

-- what stands round the body of each block: type and total length before it, the total length again behind it
pub record Outer : Type 0 where
  pub kind : List ℕ
  pub total : List ℕ
  pub again : List ℕ

abbrev pub framed : Outer → List ℕ → List ℕ
framed outer body = outer.kind ++ (outer.total ++ (body ++ outer.again))

-- round a body of so many octets, which are whole groups of four
pub record IsFramed (order : Endian) (size : ℕ) (outer : Outer) : Type 0 where
  pub kind : length outer.kind ≡ 4
  pub total : length outer.total ≡ 4
  pub again : length outer.again ≡ 4
  pub total_is : number order 4 outer.total ≡ 12 + size
  pub again_is : number order 4 outer.again ≡ 12 + size
  pub groups : (12 + size) % 4 ≡ 0

-- an option: its code, the length of its value, and the value, padded to whole groups of four octets
pub record Choice : Type 0 where
  pub code : List ℕ
  pub size : List ℕ
  pub value : List ℕ

abbrev pub choice_text : Choice → List ℕ
choice_text choice = (choice.code ++ choice.size) ++ choice.value

pub record IsChoice (order : Endian) (choice : Choice) : Type 0 where
  pub code : length choice.code ≡ 2
  pub size : length choice.size ≡ 2
  pub value : length choice.value ≡ padded (number order 2 choice.size)

-- the unit of times behind an option: that of code 9 and of one octet tells it
abbrev pub unit_behind : Endian → (unit : ℕ) → Choice → ℕ
unit_behind order unit choice =
    if number order 2 choice.code == 9 && number order 2 choice.size == 1 then slice_index choice.value 0 else unit

abbrev pub unit_of : Endian → (unit : ℕ) → List Choice → ℕ
unit_of order unit [] = unit
unit_of order unit (choice ∷ choices) = unit_of order (unit_behind order unit choice) choices

-- a section header: the magic, the major version, and the minor one, the section's length and options, which aren't read
pub record Section : Type 0 where
  pub magic : List ℕ
  pub major : List ℕ
  pub rest : List ℕ

-- an interface: link type, two octets, snap length, and options
pub record Description : Type 0 where
  pub link : List ℕ
  pub reserved : List ℕ
  pub snap : List ℕ
  pub choices : List Choice

-- an enhanced packet: which interface, the time, of which the high half stands first, the captured length and the
-- packet's, its octets, and octets that aren't read
pub record Record : Type 0 where
  pub which : List ℕ
  pub high : List ℕ
  pub low : List ℕ
  pub captured : List ℕ
  pub original : List ℕ
  pub octets : List ℕ
  pub rest : List ℕ

-- a simple packet: its length, its octets, and octets that aren't read
pub record Short : Type 0 where
  pub original : List ℕ
  pub octets : List ℕ
  pub rest : List ℕ

pub data Block : Type 0 where
  section : Section → Block
  described : Description → Block
  enhanced : Interface → Record → Block
  simple : Interface → Short → Block
  skipped : List ℕ → Block

abbrev pub body_text : Block → List ℕ
body_text (section s) = s.magic ++ (s.major ++ s.rest)
body_text (described d) = (d.link ++ (d.reserved ++ d.snap)) ++ flat_map choice_text d.choices
body_text (enhanced interface r) = r.which ++ ((r.high ++ (r.low ++ r.captured)) ++ (r.original ++ (r.octets ++ r.rest)))
body_text (simple interface s) = s.original ++ (s.octets ++ s.rest)
body_text (skipped octets) = octets

-- a block in the order of its section
pub record Written : Type 0 where
  pub order : Endian
  pub outer : Outer
  pub block : Block

abbrev pub block_text : Written → List ℕ
block_text written = framed written.outer (body_text written.block)

-- so many octets were captured, which aren't too many, and the block has room for them and for what pads them
pub record Holds (captured : ℕ) (octets rest : List ℕ) : Type 0 where
  pub captured_is : length octets ≡ captured
  pub most : captured ≤ longest_record
  pub padding : padded captured ≤ captured + length rest

pub record IsSection (order : Endian) (s : Section) : Type 0 where
  pub magic_size : length s.magic ≡ 4
  pub magic_is : order_of (big_number 4 s.magic) ≡ Some order
  pub major_size : length s.major ≡ 2
  pub major_is : number order 2 s.major ≡ 1
  pub rest_size : 10 ≤ length s.rest

pub record IsDescription (order : Endian) (now : Stands) (d : Description) : Type 0 where
  pub link : length d.link ≡ 2
  pub reserved : length d.reserved ≡ 2
  pub snap : length d.snap ≡ 4
  pub choices : AllByRecursion (IsChoice order) d.choices
  pub room : length now.interfaces < 256

pub record IsRecord (order : Endian) (now : Stands) (interface : Interface) (r : Record) : Type 0 where
  pub which : length r.which ≡ 4
  pub high : length r.high ≡ 4
  pub low : length r.low ≡ 4
  pub captured : length r.captured ≡ 4
  pub original : length r.original ≡ 4
  pub interface_is : slice_get now.interfaces (number order 4 r.which) ≡ Some interface
  pub holds : Holds (number order 4 r.captured) r.octets r.rest

-- as many octets as the packet has, or as the snap length of the first interface allows
pub record IsShort (order : Endian) (now : Stands) (interface : Interface) (s : Short) : Type 0 where
  pub original : length s.original ≡ 4
  pub interface_is : slice_get now.interfaces 0 ≡ Some interface
  pub holds : Holds (cut_to interface.snap (number order 4 s.original)) s.octets s.rest

-- a block that is no section header stands in a section of its order, and its type is of this kind
pub record IsPlain (order : Endian) (now : Stands) (outer : Outer) (kind : Kind) : Type 0 where
  pub other : (big_number 4 outer.kind == section_header) ≡ false
  pub order_is : now.order ≡ Some order
  pub kind_is : kind_of (number order 4 outer.kind) ≡ kind

abbrev pub IsBlock : Endian → Stands → Outer → Block → Type 0
IsBlock order now outer (section s) = (big_number 4 outer.kind ≡ section_header) × IsSection order s
IsBlock order now outer (described d) = IsPlain order now outer Described × IsDescription order now d
IsBlock order now outer (enhanced interface r) = IsPlain order now outer Enhanced × IsRecord order now interface r
IsBlock order now outer (simple interface s) = IsPlain order now outer Simple × IsShort order now interface s
IsBlock order now outer (skipped octets) = IsPlain order now outer Other

pub record Fits (now : Stands) (written : Written) : Type 0 where
  pub framed_is : IsFramed written.order (length (body_text written.block)) written.outer
  pub block_is : IsBlock written.order now written.outer written.block

abbrev pub interface_of : Endian → Description → Interface
interface_of order d = record { link = number order 2 d.link; snap = number order 4 d.snap; unit = unit_of order 6 d.choices }

-- the packet of an enhanced block, and of a simple one, behind a packet of this moment
abbrev pub packet_of : Endian → (moment : ℕ) → Interface → Record → Packet
packet_of order moment interface r =
    packet moment (time_of interface.unit (number order 4 r.high * 4294967296 + number order 4 r.low)) interface.link
    (number order 4 r.original) r.octets

abbrev pub short_of : Endian → (moment : ℕ) → Interface → Short → Packet
short_of order moment interface s = packet moment 0 interface.link (number order 4 s.original) s.octets

-- the packet that a block gives, and where the capture stands behind it
abbrev pub gives_by : Endian → Stands → Block → Option Packet × Stands
gives_by order now (section s) = (None, opened order now.moment)
gives_by order now (described d) = (None, with_interface now (interface_of order d))
gives_by order now (enhanced interface r) =
    (Some (packet_of order now.moment interface r), behind_packet now (packet_of order now.moment interface r))
gives_by order now (simple interface s) =
    (Some (short_of order now.moment interface s), behind_packet now (short_of order now.moment interface s))
gives_by order now (skipped octets) = (None, now)

abbrev pub block_gives : Stands → Written → Option Packet × Stands
block_gives now written = gives_by written.order now written.block
