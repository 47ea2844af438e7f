-- What the test of a component says of a packet's fields, and which component it stands for.
use Rattle.std.specs.Prelude.{◌≡◌, ℕ, ◌+◌, ◌-◌, ◌*◌, ◌%◌, ◌^◌, Bool, true, false, ◌&&◌, ◌||◌, nat_le, bit_and, List, Option, Some, None}
use Rattle.fs_base.specs.declared.config.Address.{Address, TheVariants.{V4, V6}}
use Rattle.fs_ops.specs.Evaluation.{holds, masks}
use Rattle.fs_nlri.specs.Parts.{Part}
use Rattle.fs_packet.specs.{Fields.{Viewed}, Matching.{holds_of, part_matches}}
use Rattle.fs_ranges.specs.declared.{pattern.Pattern.{Pattern}, ranges.Range.{Range}}
use Rattle.fs_ranges.specs.declared.tests.Test.{Test, TheVariants.{Within, OneOf, PortWithin, Ports, TcpFlags, Fragment, Destination, Source}}
use Rattle.fs_ranges.specs.declared.field.Field.{Field, TheVariants.{DestinationAddress, DestinationPort, EitherPort, FragmentBits, SourceAddress}}
use Rattle.fs_ranges.specs.declared.field.Field.TheVariants.{SourceFront, SourcePort, Syn, Zero}
use Rattle.fs_ranges.specs.Facts.{Facts, IsSmall, IsSmallField, facts_of, field_number, number_of}
use Rattle.fs_ranges.specs.{Numbers.{has_field}, Ranges.{is_in_range, range_holds}}

-- the flags and the four bits before them
abbrev pub flags_pass : List (ℕ × ℕ) → Option ℕ → Bool
flags_pass pairs None = false
flags_pass pairs (Some octets) = holds (masks (bit_and octets 0xfff)) pairs

abbrev pub lies_under : Pattern → (bits : ℕ) → Bool
lies_under pattern bits = nat_le pattern.low bits && nat_le bits pattern.high

abbrev pub is_under : Pattern → Address → Bool
is_under pattern (V4 address) = false
is_under pattern (V6 address) = lies_under pattern (address * 2 ^ pattern.offset % 2 ^ 128)

abbrev pub passes : Facts → Test → Bool
passes facts (Within range) = range_holds facts range
passes facts (OneOf field numbers) = has_field numbers (number_of facts field)
passes facts (PortWithin low high) = is_in_range facts SourcePort low high || is_in_range facts DestinationPort low high
passes facts (Ports numbers) = has_field numbers (number_of facts SourcePort) || has_field numbers (number_of facts DestinationPort)
passes facts (TcpFlags pairs) = flags_pass pairs facts.view.tcp_octets
passes facts (Fragment pairs) = holds (masks facts.view.fragment) pairs
passes facts (Destination pattern) = is_under pattern facts.view.destination
passes facts (Source pattern) = is_under pattern facts.view.source

abbrev pub test_range : Test → Option Range
test_range (Within range) = Some range
test_range test = None

-- a packet passes the test where the component matches
abbrev pub IsTestOf : Part → Test → Type 0
IsTestOf part test = (view : Viewed) → IsSmall view → passes (facts_of view) test ≡ part_matches view part

-- the list holds of the field where the test is passed
abbrev pub IsFieldTest : Field → List (ℕ × ℕ) → Test → Type 0
IsFieldTest field pairs test = (facts : Facts) (number : Option ℕ)
    → number_of facts field ≡ field_number number
    → IsSmallField number
    → passes facts test ≡ holds_of pairs number

-- the fields against which the list of a component is held
abbrev pub asks_one : Field → Bool
asks_one Zero = false
asks_one DestinationAddress = false
asks_one SourceAddress = false
asks_one EitherPort = false
asks_one Syn = false
asks_one FragmentBits = false
asks_one SourceFront = false
asks_one field = true

-- the pattern holds the addresses whose bits from the offset up to the length are these
pub record IsPatternOf (len offset bits : ℕ) (pattern : Pattern) : Type 0 where
  pub begins : pattern.offset ≡ offset
  pub low : pattern.low ≡ bits
  pub high : pattern.high + 1 ≡ bits + 2 ^ (128 - (len - offset))
