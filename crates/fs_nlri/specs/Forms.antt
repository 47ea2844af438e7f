-- The types of components that a family has, and the form of each (RFC 8955 section 4.2.2, RFC 8956 section 3).
use Rattle.std.specs.{Prelude.{ℕ, List, [], ◌∷◌, Option, Some, None, get_or, map, bit_and, Bool, ◌==◌}, List.{list_all, list_any}}
use Rattle.fs_base.specs.declared.prefix.Family.{Family, TheVariants.{V4, V6}}
use Rattle.fs_ops.specs.{declared.kind.Kind.{Kind, TheVariants.{Numeric, Bitmask}}, Operator.{width_code}, Fault.{all_widths}}

-- V4Form: a length and the octets that hold so many bits.
-- V6Form: a length, an offset and the octets that hold the bits between them.
-- ListForm: pairs of an operator octet and a value, with the width codes that are allowed and the bits of a value that count (None: all).
pub data Form : Type 0 where
  V4Form : Form
  V6Form : Form
  ListForm : (kind : Kind) (widths : List ℕ) (bits : Option ℕ) → Form

-- RFC 8955 section 4.2.2.1, RFC 8956 section 3.1
abbrev pub prefix_form : Family → Form
prefix_form V4 = V4Form
prefix_form V6 = V6Form

abbrev pub number_form : Form
number_form = ListForm Numeric all_widths None

-- RFC 8955 section 4.2.2.9: one octet or two
abbrev pub tcp_flags_form : Form
tcp_flags_form = ListForm Bitmask (0 ∷ 1 ∷ []) None

-- RFC 8955 section 4.2.2.11: one octet, of which the six low bits are the DSCP
abbrev pub dscp_form : Form
dscp_form = ListForm Numeric (0 ∷ []) (Some 0x3f)

-- RFC 8955 section 4.2.2.12: LF, FF, IsF, DF; RFC 8956 section 3.6: no DF
abbrev pub fragment_bits : Family → ℕ
fragment_bits V4 = 0x0f
fragment_bits V6 = 0x0e

abbrev pub fragment_form : Family → Form
fragment_form family = ListForm Bitmask (0 ∷ []) (Some (fragment_bits family))

-- RFC 8956 section 3.7: the flow label is of IPv6 alone
abbrev pub last_forms : Family → List (Option Form)
last_forms V4 = []
last_forms V6 = Some number_form ∷ []

-- the forms of types 0, 1, 2 and so on
abbrev pub forms : Family → List (Option Form)
forms family =
    None
    ∷ Some (prefix_form family)  -- 1 destination prefix
    ∷ Some (prefix_form family)  -- 2 source prefix
    ∷ Some number_form  -- 3 protocol, in IPv6 upper-layer protocol
    ∷ Some number_form  -- 4 port
    ∷ Some number_form  -- 5 destination port
    ∷ Some number_form  -- 6 source port
    ∷ Some number_form  -- 7 ICMP type
    ∷ Some number_form  -- 8 ICMP code
    ∷ Some tcp_flags_form  -- 9 TCP flags
    ∷ Some number_form  -- 10 packet length
    ∷ Some dscp_form  -- 11 DSCP
    ∷ Some (fragment_form family)  -- 12 fragment
    ∷ last_forms family  -- 13 flow label

abbrev pub form_of : Family → ℕ → Option Form
form_of family kind = get_or (forms family) kind None

-- the pairs with the bits of their values that count
abbrev pub kept_bits : Option ℕ → List (ℕ × ℕ) → List (ℕ × ℕ)
kept_bits None pairs = pairs
kept_bits (Some bits) pairs = map (λ pair. (pair.0, bit_and pair.1 bits)) pairs

-- each value has one of these widths
abbrev pub all_allowed : List ℕ → List (ℕ × ℕ) → Bool
all_allowed widths pairs = list_all (λ pair. list_any (λ width. width == width_code pair.0) widths) pairs
