-- The fields of a packet as numbers: one that the packet doesn't have is above each that a field can have.
use Rattle.std.specs.Prelude.{◌≡◌, ℕ, ◌%◌, ◌/◌, Bool, true, false, if◌then◌else◌, ◌^◌, ◌<◌, List, [], ◌∷◌, slice_index, bit_and, Option, Some, None}
use Rattle.fs_base.specs.declared.config.Address.{Address, TheVariants.{V4, V6}}
use Rattle.fs_packet.specs.Fields.{Viewed, family_of}
use Rattle.fs_ranges.specs.declared.field.Field.{Field}
use Rattle.fs_ranges.specs.declared.field.Field.TheVariants.{Zero, DestinationAddress, SourceAddress, Protocol, EitherPort, DestinationPort, SourcePort}
use Rattle.fs_ranges.specs.declared.field.Field.TheVariants.{IcmpType, IcmpCode, Syn, Length, Dscp, FragmentBits, FlowLabel, SourceFront}

-- what a rule is tested on: a packet's fields, and those of one number by their types
pub record Facts : Type 0 where
  pub view : Viewed
  pub numbers : List ℕ

abbrev pub field_number : Option ℕ → ℕ
field_number None = 2 ^ 32
field_number (Some number) = number

abbrev pub address_number : Address → ℕ
address_number (V4 address) = address
address_number (V6 address) = 2 ^ 32

-- the SYN flag among the octets of the TCP header that hold the flags (RFC 9293 section 3.1): 2 or 0
abbrev pub syn_number : Option ℕ → ℕ
syn_number None = 2 ^ 32
syn_number (Some octets) = bit_and octets 2

-- by the type of the component that tests the field; of the types that don't test one number there is none, and of TCP
-- flags there is SYN alone
abbrev pub numbers_of : Viewed → List ℕ
numbers_of view =
    0
    ∷ address_number view.destination
    ∷ address_number view.source
    ∷ field_number view.protocol
    ∷ 2 ^ 32
    ∷ field_number view.destination_port
    ∷ field_number view.source_port
    ∷ field_number view.icmp_type
    ∷ field_number view.icmp_code
    ∷ syn_number view.tcp_octets
    ∷ view.length
    ∷ view.dscp
    ∷ 2 ^ 32
    ∷ field_number view.flow_label
    ∷ 2 ^ 32
    ∷ 2 ^ 32
    ∷ []

-- the type of the component that tests the field; of the front of a source, which none does, 14
abbrev pub kind_of : Field → ℕ
kind_of Zero = 0
kind_of DestinationAddress = 1
kind_of SourceAddress = 2
kind_of Protocol = 3
kind_of EitherPort = 4
kind_of DestinationPort = 5
kind_of SourcePort = 6
kind_of IcmpType = 7
kind_of IcmpCode = 8
kind_of Syn = 9
kind_of Length = 10
kind_of Dscp = 11
kind_of FragmentBits = 12
kind_of FlowLabel = 13
kind_of SourceFront = 14

abbrev pub number_of : Facts → Field → ℕ
number_of facts field = slice_index facts.numbers (kind_of field)

abbrev pub is_front : Field → Bool
is_front SourceFront = true
is_front field = false

-- the first 64 bits of an address of IPv6; one of IPv4 has none
abbrev pub front_of : Address → ℕ
front_of (V4 address) = 2 ^ 32
front_of (V6 address) = address % 2 ^ 128 / 2 ^ 64

-- the number by which rules are told apart on a field
abbrev pub key_of : Facts → Field → ℕ
key_of facts field = if is_front field then front_of facts.view.source else number_of facts field

-- the facts of a packet
abbrev pub facts_of : Viewed → Facts
facts_of view = record { view = view; numbers = numbers_of view }

abbrev pub IsSmallField : Option ℕ → Type 0
IsSmallField None = Unit {0}
IsSmallField (Some number) = number < 2 ^ 32

abbrev pub IsSmallAddress : Address → Type 0
IsSmallAddress (V4 address) = address < 2 ^ 32
IsSmallAddress (V6 address) = address < 2 ^ 128

-- the numbers have the octets of their fields; so it is of each packet
pub record IsSmall (view : Viewed) : Type 0 where
  pub destination : IsSmallAddress view.destination
  pub source : IsSmallAddress view.source
  pub protocol : IsSmallField view.protocol
  pub icmp_type : IsSmallField view.icmp_type
  pub icmp_code : IsSmallField view.icmp_code
  pub source_port : IsSmallField view.source_port
  pub destination_port : IsSmallField view.destination_port
  pub flow_label : IsSmallField view.flow_label
  pub length : view.length < 2 ^ 32
  pub dscp : view.dscp < 2 ^ 32

-- what was read is what the packet has
pub record AreFacts (view : Viewed) (facts : Facts) : Type 0 where
  pub same : facts.view ≡ view
  pub numbers : facts.numbers ≡ numbers_of view
  pub small : IsSmall view
  pub same_family : family_of view.destination ≡ view.family
