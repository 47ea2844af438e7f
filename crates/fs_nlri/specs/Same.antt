-- Equality of components and of rules as `==` has it: equal parts, one after the other.
use Rattle.std.specs.{Prelude.{◌≡◌, Bool, false, ◌==◌, ◌&&◌}, Bool.{Decides}}
use Rattle.std.specs.Cmp.{IsEquivalence, unsigned_Decides, decided, Lexicographic.{pointwise, pointwise_decides}}
use Rattle.std.proofs.Common.{refl, ap}
use Rattle.fs_base.specs.{declared.prefix.Family.{Family, TheVariants.{V4, V6}}, Bits.{afi_of}}
use Rattle.fs_ops.specs.Same.{same_pairs, both_decide, same_pairs_decides}
use Rattle.fs_nlri.specs.Parts.{Body, V4Body, V6Body, ListBody, Part, Ruled}

abbrev pub same_body : Body → Body → Bool
same_body (V4Body family len bits) (V4Body family' len' bits') = (afi_of family == afi_of family') && ((len == len') && (bits == bits'))
same_body (V6Body len offset pattern) (V6Body len' offset' pattern') = (len == len') && ((offset == offset') && (pattern == pattern'))
same_body (ListBody pairs) (ListBody pairs') = same_pairs pairs pairs'
same_body _ _ = false

abbrev pub same_part : Part → Part → Bool
same_part a b = (a.kind == b.kind) && same_body a.body b.body

abbrev pub same_rule : Ruled → Ruled → Bool
same_rule a b = (afi_of a.family == afi_of b.family) && pointwise same_part a.parts b.parts

-- parts, and rules, are equal exactly where they are the same
abbrev pub OnlySameParts : Type 0
OnlySameParts = (a b : Part) → Decides (same_part a b) (a ≡ b)

abbrev pub OnlySameRules : Type 0
OnlySameRules = (a b : Ruled) → Decides (same_rule a b) (a ≡ b)

pub same_family_decides : (f g : Family) → Decides (afi_of f == afi_of g) (f ≡ g)
same_family_decides V4 V4 = (λ _. refl, λ _. refl)
same_family_decides V4 V6 = (λ e. absurd (cc), λ e. absurd (cc))
same_family_decides V6 V4 = (λ e. absurd (cc), λ e. absurd (cc))
same_family_decides V6 V6 = (λ _. refl, λ _. refl)

pub same_body_decides : (a b : Body) → Decides (same_body a b) (a ≡ b)
same_body_decides (V4Body f m a) (V4Body g n b) =
    let parts = both_decide (afi_of f == afi_of g) ((m == n) && (a == b)) (same_family_decides f g)
    (both_decide (m == n) (a == b) (unsigned_Decides m n) (unsigned_Decides a b)) in
    (λ e. let s = parts.0 e in λ i. V4Body (s.0 i) (s.1.0 i) (s.1.1 i), λ e. parts.1 (cc, (cc, cc)))
same_body_decides (V6Body m o a) (V6Body n p b) =
    let parts = both_decide (m == n) ((o == p) && (a == b)) (unsigned_Decides m n)
    (both_decide (o == p) (a == b) (unsigned_Decides o p) (unsigned_Decides a b)) in
    (λ e. let s = parts.0 e in λ i. V6Body (s.0 i) (s.1.0 i) (s.1.1 i), λ e. parts.1 (cc, (cc, cc)))
same_body_decides (ListBody xs) (ListBody ys) = (λ e. ap ListBody ((same_pairs_decides xs ys).0 e), λ e. (same_pairs_decides xs ys).1 (cc))
same_body_decides a b = (λ e. absurd (cc), λ e. absurd (cc))

pub same_part_decides : OnlySameParts
same_part_decides a b =
    let parts = both_decide (a.kind == b.kind) (same_body a.body b.body) (unsigned_Decides a.kind b.kind) (same_body_decides a.body b.body) in
    (λ e. let s = parts.0 e in λ i. record { kind = s.0 i; body = s.1 i }, λ e. parts.1 (λ i. (e i).kind, λ i. (e i).body))

pub same_rule_decides : OnlySameRules
same_rule_decides a b =
    let parts = both_decide (afi_of a.family == afi_of b.family) (pointwise same_part a.parts b.parts) (same_family_decides a.family b.family)
    (pointwise_decides same_part_decides a.parts b.parts) in
    (λ e. let s = parts.0 e in λ i. record { family = s.0 i; parts = s.1 i }, λ e. parts.1 (λ i. (e i).family, λ i. (e i).parts))

pub same_part_law : IsEquivalence same_part
same_part_law = decided same_part same_part_decides

pub same_rule_law : IsEquivalence same_rule
same_rule_law = decided same_rule same_rule_decides
