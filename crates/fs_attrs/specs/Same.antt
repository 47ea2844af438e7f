-- Equality of lists of routes as `==` has it: equal routes, one after the other.
use Rattle.std.specs.{Prelude.{◌≡◌, Bool, ◌==◌, ◌&&◌, List}, Bool.{Decides}}
use Rattle.std.specs.Cmp.{IsEquivalence, unsigned_Decides, decided, Lexicographic.{pointwise, pointwise_decides}}
use Rattle.fs_base.specs.Bits.{afi_of}
use Rattle.fs_ops.specs.Same.{both_decide}
use Rattle.fs_nlri.specs.{Parts.{Ruled}, Same.{same_family_decides, same_rule, same_rule_decides}}
use Rattle.fs_attrs.specs.Prefixes.{Shown}

abbrev pub same_prefix : Shown → Shown → Bool
same_prefix a b = (afi_of a.0 == afi_of b.0) && ((a.2 == b.2) && (a.1 == b.1))

abbrev pub same_prefixes : List Shown → List Shown → Bool
same_prefixes = pointwise same_prefix

abbrev pub same_rules : List Ruled → List Ruled → Bool
same_rules = pointwise same_rule

-- lists are equal exactly where they are the same
abbrev pub OnlySamePrefixes : Type 0
OnlySamePrefixes = (a b : List Shown) → Decides (same_prefixes a b) (a ≡ b)

abbrev pub OnlySameRules : Type 0
OnlySameRules = (a b : List Ruled) → Decides (same_rules a b) (a ≡ b)

pub same_prefix_decides : (a b : Shown) → Decides (same_prefix a b) (a ≡ b)
same_prefix_decides a b =
    let parts = both_decide (afi_of a.0 == afi_of b.0) ((a.2 == b.2) && (a.1 == b.1)) (same_family_decides a.0 b.0)
    (both_decide (a.2 == b.2) (a.1 == b.1) (unsigned_Decides a.2 b.2) (unsigned_Decides a.1 b.1)) in
    (λ e. let s = parts.0 e in λ i. (s.0 i, s.1.1 i, s.1.0 i), λ e. parts.1 (λ i. (e i).0, (λ i. (e i).2, λ i. (e i).1)))

pub same_prefixes_decides : OnlySamePrefixes
same_prefixes_decides = pointwise_decides same_prefix_decides

pub same_rules_decides : OnlySameRules
same_rules_decides = pointwise_decides same_rule_decides

pub same_prefixes_law : IsEquivalence same_prefixes
same_prefixes_law = decided same_prefixes same_prefixes_decides
