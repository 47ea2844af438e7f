-- Within a family the order looks at the destination prefixes first.
use Rattle.std.specs.{Prelude.{◌≡◌, ℕ, ◌+◌, ◌-◌, ◌^◌, Option, Some, None}, declared.cmp.Ordering.{Ordering, TheVariants.{Less, Equal, Greater}}}
use Rattle.std.specs.Ordering.{nat_cmp, ordering_then}
use Rattle.fs_base.specs.{declared.prefix.Family.{Family}, Bits.{afi_of, width_of}}
use Rattle.fs_nlri.specs.{Parts.{Ruled}, Rule.{IsRule, destination_of}}
use Rattle.fs_order.specs.Comparison.{rule_cmp}

-- what prefixes show, family, bits and length, in the order of prefixes
abbrev pub last_shown : Family × ℕ × ℕ → ℕ
last_shown p = p.1 + 2 ^ (width_of p.0 - p.2) - 1

abbrev pub shown_cmp : Family × ℕ × ℕ → Family × ℕ × ℕ → Ordering
shown_cmp p q = ordering_then (nat_cmp (afi_of p.0) (afi_of q.0)) (ordering_then (nat_cmp (last_shown p) (last_shown q)) (nat_cmp q.2 p.2))

-- a rule without a destination, of IPv6 without one of offset 0, comes last
abbrev pub destination_cmp : Option (Family × ℕ × ℕ) → Option (Family × ℕ × ℕ) → Ordering
destination_cmp None None = Equal
destination_cmp None (Some q) = Greater
destination_cmp (Some p) None = Less
destination_cmp (Some p) (Some q) = shown_cmp p q

-- the destinations decide, unless they are equal
abbrev pub DestinationsFirst : Type 0
DestinationsFirst =
    (a b : Ruled) → IsRule a → IsRule b → a.family ≡ b.family
    → rule_cmp a b ≡ ordering_then (destination_cmp (destination_of a) (destination_of b)) (rule_cmp a b)
