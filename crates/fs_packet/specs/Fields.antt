-- What is read of a packet, or why it isn't read.
use Rattle.std.specs.Prelude.{◌≡◌, ℕ, ◌/◌, ◌<◌, ◌≤◌, ◌==◌, Bool, true, false, ◌&&◌, ◌||◌, List, length, drop, slice_index, bit_and, nat_le}
use Rattle.std.specs.Prelude.{if◌then◌else◌, Option, Some, None}
use Rattle.byteorder.specs.Endian.{big_number}
use Rattle.fs_base.specs.declared.{prefix.Family.{Family, TheVariants.{V4, V6}}, config.Address.{Address, TheVariants.{V4 as V4Address, V6 as V6Address}}}
use Rattle.fs_packet.specs.declared.fields.Unread.{Unread, TheVariants.{Foreign, Short, Version, Header, Length}}
use Rattle.fs_packet.specs.declared.fields.Upper.{Upper, TheVariants.{Tcp, Udp, Icmp, Other, Unknown}}

abbrev pub unread_number : Unread → ℕ
unread_number Foreign = 1
unread_number Short = 2
unread_number Version = 3
unread_number Header = 4
unread_number Length = 5

-- the number in n octets from a place on
abbrev pub number_at : (n : ℕ) → List ℕ → (place : ℕ) → ℕ
number_at n octets place = big_number n (drop place octets)

pub record Viewed : Type 0 where
  pub family : Family
  pub source : Address
  pub destination : Address
  pub protocol : Option ℕ
  pub icmp_type : Option ℕ
  pub icmp_code : Option ℕ
  pub source_port : Option ℕ
  pub destination_port : Option ℕ
  pub tcp_octets : Option ℕ
  pub flow_label : Option ℕ
  pub length : ℕ
  pub dscp : ℕ
  pub fragment : ℕ

-- RFC 791 section 3.1, RFC 8200 section 3
abbrev pub source_at : Family → List ℕ → Address
source_at V4 packet = V4Address (number_at 4 packet 12)
source_at V6 packet = V6Address (number_at 16 packet 8)

abbrev pub destination_at : Family → List ℕ → Address
destination_at V4 packet = V4Address (number_at 4 packet 16)
destination_at V6 packet = V6Address (number_at 16 packet 24)

abbrev pub family_of : Address → Family
family_of (V4Address address) = V4
family_of (V6Address address) = V6

-- the high six bits of the traffic octet (RFC 2474 section 3)
abbrev pub dscp_at : Family → List ℕ → ℕ
dscp_at V4 packet = slice_index packet 1 / 4
dscp_at V6 packet = bit_and (number_at 2 packet 0 / 64) 0x3f

abbrev pub flow_label_at : Family → List ℕ → Option ℕ
flow_label_at V4 packet = None
flow_label_at V6 packet = Some (bit_and (number_at 4 packet 0) 0xfffff)

-- TCP and UDP
abbrev pub has_ports : Option ℕ → Bool
has_ports None = false
has_ports (Some protocol) = (protocol == 6) || (protocol == 17)

abbrev pub is_tcp : Option ℕ → Bool
is_tcp None = false
is_tcp (Some protocol) = protocol == 6

-- ICMP in IPv4, ICMPv6 in IPv6
abbrev pub icmp_number : Family → ℕ
icmp_number V4 = 1
icmp_number V6 = 58

abbrev pub is_icmp : Family → Option ℕ → Bool
is_icmp family None = false
is_icmp family (Some protocol) = protocol == icmp_number family

-- a number of the upper layer's header, present where that has so many octets
abbrev pub field_at : Bool → (held n : ℕ) → List ℕ → (place : ℕ) → Option ℕ
field_at present held n transport place =
    if present && nat_le held (length transport) then Some (number_at n transport place) else None

-- the fields by their places: in the packet, and in the octets of the upper layer's header that are held
abbrev pub viewed : Family → List ℕ → (len : ℕ) → Option ℕ → (fragment : ℕ) → List ℕ → Viewed
viewed family packet len protocol fragment transport = record {
  family = family;
  source = source_at family packet;
  destination = destination_at family packet;
  protocol = protocol;
  icmp_type = field_at (is_icmp family protocol) 1 1 transport 0;
  icmp_code = field_at (is_icmp family protocol) 2 1 transport 1;
  source_port = field_at (has_ports protocol) 4 2 transport 0;
  destination_port = field_at (has_ports protocol) 4 2 transport 2;
  tcp_octets = field_at (is_tcp protocol) 14 2 transport 12;
  flow_label = flow_label_at family packet;
  length = len;
  dscp = dscp_at family packet;
  fragment = fragment;
}

-- the least octets of a network header
abbrev pub HasHeader : Family → List ℕ → Type 0
HasHeader V4 packet = 20 ≤ length packet
HasHeader V6 packet = 40 ≤ length packet

-- what the protocol says of the upper layer's header
abbrev pub upper_of : Family → Option ℕ → Upper
upper_of family None = Unknown
upper_of family (Some protocol) =
    if protocol == 6 then Tcp else (if protocol == 17 then Udp else (if protocol == icmp_number family then Icmp else Other))

-- the protocol, by what it says and its number
abbrev pub protocol_of : Upper → ℕ → Option ℕ
protocol_of Unknown number = None
protocol_of upper number = Some number

abbrev pub says_tcp : Upper → Bool
says_tcp Tcp = true
says_tcp upper = false

abbrev pub says_ports : Upper → Bool
says_ports Tcp = true
says_ports Udp = true
says_ports upper = false

abbrev pub says_icmp : Upper → Bool
says_icmp Icmp = true
says_icmp upper = false

-- what is true of each view: its header is whole, its fragment bits are of a rule's four, and what its protocol says is
-- known
pub record IsView (family : Family) (packet : List ℕ) (fragment number : ℕ) (upper : Upper) : Type 0 where
  pub header : HasHeader family packet
  pub bits : fragment < 16
  pub told : upper ≡ upper_of family (protocol_of upper number)
