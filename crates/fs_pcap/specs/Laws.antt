-- A capture is done exactly where it is the text of its packets, behind a header.
use Rattle.std.specs.Prelude.{ℕ, List, ◌++◌, Some, ◌≡◌, ◌↔◌, ◌<◌, ◌≤◌, ◌%◌, ◌^◌, length, flat_map, max}
use Rattle.byteorder.specs.Endian.{big_bytes, little_bytes}
use Rattle.fs_base.specs.{Language.{IsOctets}, Link.{link_of}, declared.link.Link.{Link}}
use Rattle.fs_input.specs.{Parts.{AllFrom}, Records.{done}}
use Rattle.fs_pcap.specs.{Capture.{Captured, capture_of}, Head.{longest_record}, Order.{order_of, time_of}}
use Rattle.fs_pcap.specs.declared.{head.Context.{Context}, order.{Endian.{Endian, TheVariants.{Big, Little}}, Unit.{Unit as FractionUnit}}}

abbrev pub octets_of : Endian → ℕ → ℕ → List ℕ
octets_of Big size number = big_bytes size number
octets_of Little size number = little_bytes size number

-- what a header holds: its magic, the octets that aren't read, and the number of which the low half is the link type
pub record HeaderWords : Type 0 where
  pub magic : ℕ
  pub unread : List ℕ
  pub link_word : ℕ

-- magic, version 2.4, the octets that aren't read, and the link type
abbrev pub header_text : Endian → HeaderWords → List ℕ
header_text order words =
    big_bytes 4 words.magic
    ++ (octets_of order 2 2 ++ (octets_of order 2 4 ++ (words.unread ++ octets_of order 4 words.link_word)))

-- The magic tells the order and the unit, and the number the link type. The other twelve octets and the number's high
-- half are free.
pub record IsHeaderOf (order : Endian) (unit : FractionUnit) (link : Link) (words : HeaderWords) : Type 0 where
  pub told : order_of words.magic ≡ Some (order, unit)
  pub unread_size : length words.unread ≡ 12
  pub room : words.link_word < 2 ^ 32
  pub link_is : link_of (words.link_word % 65536) ≡ Some link

abbrev pub packet_text : Endian → Captured → List ℕ
packet_text order packet =
    octets_of order 4 packet.seconds
    ++ (octets_of order 4 packet.fraction
    ++ (octets_of order 4 (length packet.octets) ++ (octets_of order 4 packet.original ++ packet.octets)))

-- A packet can be written where a capture stands: the numbers have their room, not too many octets were captured, its
-- time is the seconds and the fraction, and its moment the greater of the last one and its own time.
pub record Fits (now : Context) (packet : Captured) : Type 0 where
  pub seconds : packet.seconds < 2 ^ 32
  pub fraction : packet.fraction < 2 ^ 32
  pub original : packet.original < 2 ^ 32
  pub captured : length packet.octets ≤ longest_record
  pub time_is : packet.time ≡ time_of now.unit packet.seconds packet.fraction
  pub moment_is : packet.moment ≡ max now.moment packet.time

abbrev pub stands : Endian → FractionUnit → ℕ → Context
stands order unit moment = record { order = order; unit = unit; moment = moment }

-- where a capture stands behind a packet
abbrev pub after : Context → Captured → Context
after now packet = stands now.order now.unit packet.moment

-- The content is the text of these packets behind a header of this link type, each of which can be written behind those
-- before it, and lies below the limit.
pub record IsCaptureOf (limit : ℕ) (content : List ℕ) (link : Link) (packets : List Captured) : Type 0 where
  pub order : Endian
  pub unit : FractionUnit
  pub words : HeaderWords
  pub header : IsHeaderOf order unit link words
  pub spelled : content ≡ header_text order words ++ flat_map (packet_text order) packets
  pub fit : AllFrom Fits after (stands order unit 0) packets
  pub below : length content < limit

abbrev pub ReadsBack : Type 0
ReadsBack =
    (limit : ℕ) (content : List ℕ) (link : Link) (packets : List Captured) → IsOctets content
    → (capture_of limit content ≡ record { link = Some link; packets = packets; end = done })
    ↔ IsCaptureOf limit content link packets
