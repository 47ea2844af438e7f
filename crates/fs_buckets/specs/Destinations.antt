-- The destinations of rules as first and last addresses, and where one stands among others.
use Rattle.std.specs.Prelude.{◌≡◌, ℕ, ◌<◌, ◌≤◌, Option, Some, None, option_map, List, length, get_or, map, ◌≢◌, ◌^◌}
use Rattle.std.specs.{Ordering.{nat_cmp, ordering_then}, declared.cmp.Ordering.{Ordering, TheVariants.{Less, Equal, Greater}}}
use Rattle.fs_base.specs.declared.prefix.{Family.{Family}, Prefix.{Prefix}}
use Rattle.fs_nlri.specs.{Parts.{Ruled}, Rule.{IsRule, destination_of, shown}}
use Rattle.fs_order.specs.Laws.{last_shown}
use Rattle.fs_rules.specs.Lent.{Listed}
use Rattle.fs_buckets.specs.Buckets.{IsSubnet}

-- the first and the last address of a destination
abbrev pub span_by : Option (Family × ℕ × ℕ) → Option (ℕ × ℕ)
span_by destination = option_map (λ d. (d.1, last_shown d)) destination

abbrev pub span_of : Ruled → Option (ℕ × ℕ)
span_of rule = span_by (destination_of rule)

abbrev pub spans_of : List Listed → List (Option (ℕ × ℕ))
spans_of rules = map (λ r. span_of r.rule) rules

-- a rule of the family
pub record IsOfFamily (family : Family) (r : Listed) : Type 0 where
  pub same : r.rule.family ≡ family
  pub rule : IsRule r.rule

-- each rule has a destination
abbrev pub AreAll : List (Option (ℕ × ℕ)) → Type 0
AreAll spans = (k : ℕ) → k < length spans → get_or spans k None ≢ None

-- the addresses are those of prefixes, and have so many bits
abbrev pub AreNarrow : (width : ℕ) → List (Option (ℕ × ℕ)) → Type 0
AreNarrow width spans =
    (k : ℕ) (p : ℕ × ℕ) → get_or spans k None ≡ Some p → (p.0 < 2 ^ width) × (p.1 < 2 ^ width) × IsSubnet p.0 p.1

-- how one destination stands to another, by first and last addresses: of those that end alike the shorter stands first
abbrev pub span_cmp : ℕ × ℕ → ℕ × ℕ → Ordering
span_cmp p q = ordering_then (nat_cmp p.1 q.1) (nat_cmp q.0 p.0)

-- how a rule's destination stands to this one; a rule without one comes last
abbrev pub place_by : (target span : Option (ℕ × ℕ)) → Ordering
place_by None None = Equal
place_by None (Some p) = Less
place_by (Some q) None = Greater
place_by (Some q) (Some p) = span_cmp p q

-- the rules from one number on before another have this destination, those before come first, those behind come last
pub record IsStretch (spans : List (Option (ℕ × ℕ))) (target : Option (ℕ × ℕ)) (from to : ℕ) : Type 0 where
  pub ordered : from ≤ to
  pub within : to ≤ length spans
  pub before : (k : ℕ) → k < from → place_by target (get_or spans k None) ≡ Less
  pub at : (k : ℕ) → from ≤ k → k < to → place_by target (get_or spans k None) ≡ Equal
  pub behind : (k : ℕ) → to ≤ k → k < length spans → place_by target (get_or spans k None) ≡ Greater

-- each rule has this destination
abbrev pub AreTo : Option (ℕ × ℕ) → List (Option (ℕ × ℕ)) → Type 0
AreTo target spans = (k : ℕ) → k < length spans → get_or spans k None ≡ target

-- the first and the last address of a destination
abbrev pub target_of : Option Prefix → Option (ℕ × ℕ)
target_of destination = span_by (option_map shown destination)
