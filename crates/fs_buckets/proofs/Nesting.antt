-- Rules in order have destinations in order: as intervals they are nested or apart, and rules without one come last.
use Rattle.fs_buckets.proofs.Words.{◌≡◌, ℕ, zero, suc, ◌+◌, ◌-◌, ◌^◌, ◌<◌, ◌≤◌, ◌⊎◌, inl, inr, refl, sym, ap, ap₂, subst, ◌∙◌, true, true≢false}
use Rattle.fs_buckets.proofs.Words.{Option, Some, None, List, [], ◌∷◌, get_or, map, Ordering, Less, Equal, Greater, is_le, nat_cmp, pow_pos, arith}
use Rattle.fs_buckets.proofs.Words.{AllByRecursion, MatchOrdering, ordering_then, nat_cmp_is, cases_lt, none-some, Family, width_of, afi_of, Ruled}
use Rattle.fs_buckets.proofs.Words.{IsRule, destination_of, IsMade, destination_cmp, last_shown, shown_cmp, listed, family_of_destination, IsOfFamily}
use Rattle.fs_buckets.proofs.Words.{span_by, span_of, spans_of, AreNesting}
use Rattle.fs_buckets.proofs.Destinations.{HasDestination, from_span, made_destination}
use Rattle.std.proofs.{Math.Pow.{pow_mono}, lemmas.Cmp.{ranked}}
use Rattle.fs_base.proofs.{Blocks.{IsBlock, block_inside, block_meeting, block_of}, Orderings.{is_le_of_then}}
use Rattle.fs_order.{specs.Comparison.{rule_cmp}, proofs.First.{destinations_first}}
use Rattle.fs_rules.specs.Table.{AreOrdered, IsRuleOf}
use Rattle.fs_validate.specs.declared.route.FlowRoute.{FlowRoute}

le_from : (x y : ℕ) → is_le (nat_cmp x y) ≡ true → x ≤ y
le_from x y h = at (nat_cmp x y) (ranked x y (nat_cmp x y) refl) h where
  at : (o : Ordering) → MatchOrdering o (x < y) (x ≡ y) (y < x) → is_le o ≡ true → x ≤ y
  at Less less g = omega (arith, less)
  at Equal same g = omega (arith, same)
  at Greater more g = absurd (true≢false (sym g))

-- the comparison of the last addresses, then of the lengths
record InOrder (p q : Family × ℕ × ℕ) : Type 0 where
  pub last : last_shown p ≤ last_shown q
  pub longer : last_shown p ≡ last_shown q → q.2 ≤ p.2

in_order : (p q : Family × ℕ × ℕ) → p.0 ≡ q.0 → is_le (shown_cmp p q) ≡ true → InOrder p q
in_order p q f e = by_last (nat_cmp (last_shown p) (last_shown q)) refl
    (subst (λ o. is_le (ordering_then o (ordering_then (nat_cmp (last_shown p) (last_shown q)) (nat_cmp q.2 p.2))) ≡ true) same e) where
      same : nat_cmp (afi_of p.0) (afi_of q.0) ≡ Equal
      same = sym (nat_cmp_is (afi_of p.0) (afi_of q.0) Equal (ap afi_of f))

      by_last : (o : Ordering) → nat_cmp (last_shown p) (last_shown q) ≡ o → is_le (ordering_then o (nat_cmp q.2 p.2)) ≡ true → InOrder p q
      by_last Less c g =
          let l : last_shown p < last_shown q = ranked (last_shown p) (last_shown q) Less (sym c) in
          record { last = omega (arith, l); longer = λ same. omega (arith, l, same) }
      by_last Equal c g =
          let l : last_shown p ≡ last_shown q = ranked (last_shown p) (last_shown q) Equal (sym c) in
          record { last = omega (arith, l); longer = λ same. le_from q.2 p.2 g }
      by_last Greater c g = absurd (true≢false (sym g))

-- of two blocks that of which ends later begins no later, if it begins before the other ends
fits : (w m a n b : ℕ) → IsBlock w m a → IsBlock w n b → a + 2 ^ (w - m) < b + 2 ^ (w - n) → b < a + 2 ^ (w - m) → b ≤ a
fits w m a n b p q last meets = at (cases_lt m n) where
  some : 0 < 2 ^ (w - m)
  some = pow_pos (w - m)

  low : a < b + 2 ^ (w - n)
  low = omega (arith, last, some)

  at : (m < n) ⊎ (n ≤ m) → b ≤ a
  at (inr le) = (block_inside w n b m a q p le (block_meeting w n b m a q p le meets low)).0
  at (inl less) =
      let inner : (a ≤ b) × (b + 2 ^ (w - n) ≤ a + 2 ^ (w - m)) =
      block_inside w m a n b p q (omega (arith, less)) (block_meeting w m a n b p q (omega (arith, less)) low meets) in
      let high : b + 2 ^ (w - n) ≤ a + 2 ^ (w - m) = inner.1 in
      absurd (omega (arith, high, last))

-- two destinations, one behind the other
abbrev pub Fits : ℕ × ℕ → ℕ × ℕ → Type 0
Fits p q = (p.1 ≤ q.1) × (q.0 ≤ p.1 → q.0 ≤ p.0)

-- the destinations of two rules in order
destinations_le : (a b : Ruled) → IsRule a → IsRule b → a.family ≡ b.family → rule_cmp a b ≡ Less
    → is_le (destination_cmp (destination_of a) (destination_of b)) ≡ true
destinations_le a b h k f less =
    is_le_of_then (destination_cmp (destination_of a) (destination_of b)) (rule_cmp a b) (sym (destinations_first a b h k f) ∙ less)

-- the first address of a rule's destination is no later than the last
pub span_proper : (a : Ruled) (p : ℕ × ℕ) → IsRule a → span_of a ≡ Some p → p.0 ≤ p.1
span_proper a p h e = subst (λ x. x.0 ≤ x.1) (sym from.span) (let some : 0 < 2 ^ (width_of from.d.0 - from.d.2) =
    pow_pos (width_of from.d.0 - from.d.2) in omega (arith, some)) where
      from : HasDestination a p
      from = from_span a p e

-- the destinations of two rules, of which the later ends no earlier, and begins no later where both end alike
pub spans_fit : (a b : Ruled) (p q : ℕ × ℕ) → IsRule a → IsRule b → a.family ≡ b.family → span_of a ≡ Some p → span_of b ≡ Some q → p.1 ≤ q.1
    → (p.1 ≡ q.1 → q.0 ≤ p.0) → Fits p q
spans_fit a b p q h k f e g last first = (last, λ meets. at (cases_lt p.1 q.1) meets) where
  from : HasDestination a p
  from = from_span a p e

  to : HasDestination b q
  to = from_span b q g

  w : ℕ
  w = width_of from.d.0

  same : from.d.0 ≡ to.d.0
  same = family_of_destination a from.d h from.is ∙ f ∙ sym (family_of_destination b to.d k to.is)

  made_from : IsMade (Some from.d)
  made_from = made_destination a from.d h from.is

  made_to : IsMade (Some to.d)
  made_to = made_destination b to.d k to.is

  block_from : IsBlock w from.d.2 from.d.1
  block_from = block_of w from.d.2 from.d.1 made_from.0 made_from.1

  block_to : IsBlock w to.d.2 to.d.1
  block_to = subst (λ x. IsBlock (width_of x) to.d.2 to.d.1) (sym same) (block_of (width_of to.d.0) to.d.2 to.d.1 made_to.0 made_to.1)

  first_from : p.0 ≡ from.d.1
  first_from = ap (λ (x : ℕ × ℕ). x.0) from.span

  first_to : q.0 ≡ to.d.1
  first_to = ap (λ (x : ℕ × ℕ). x.0) to.span

  last_from : p.1 ≡ from.d.1 + 2 ^ (w - from.d.2) - 1
  last_from = ap (λ (x : ℕ × ℕ). x.1) from.span

  last_to : q.1 ≡ to.d.1 + 2 ^ (w - to.d.2) - 1
  last_to = ap (λ (x : ℕ × ℕ). x.1) to.span ∙ ap (λ x. to.d.1 + 2 ^ (width_of x - to.d.2) - 1) (sym same)

  some_from : 0 < 2 ^ (w - from.d.2)
  some_from = pow_pos (w - from.d.2)

  some_to : 0 < 2 ^ (w - to.d.2)
  some_to = pow_pos (w - to.d.2)

  at : (p.1 < q.1) ⊎ (q.1 ≤ p.1) → q.0 ≤ p.1 → q.0 ≤ p.0
  at (inr le) meets = first (omega (arith, le, last))
  at (inl less) meets =
      let begins : to.d.1 ≤ from.d.1 =
      fits w from.d.2 from.d.1 to.d.2 to.d.1 block_from block_to (omega (arith, less, last_from, last_to, some_from, some_to))
      (omega (arith, meets, first_to, last_from, some_from)) in
      omega (arith, begins, first_from, first_to)

pair_fits : (a b : Ruled) (p q : ℕ × ℕ) → IsRule a → IsRule b → a.family ≡ b.family → rule_cmp a b ≡ Less → span_of a ≡ Some p → span_of b ≡ Some q → Fits p q
pair_fits a b p q h k f less e g =
    spans_fit a b p q h k f e g (subst (λ (x : ℕ × ℕ). x.1 ≤ q.1) (sym from.span)
    (subst (λ (x : ℕ × ℕ). last_shown from.d ≤ x.1) (sym to.span) order.last)) longer where
      from : HasDestination a p
      from = from_span a p e

      to : HasDestination b q
      to = from_span b q g

      same : from.d.0 ≡ to.d.0
      same = family_of_destination a from.d h from.is ∙ f ∙ sym (family_of_destination b to.d k to.is)

      order : InOrder from.d to.d
      order = in_order from.d to.d same (sym (ap is_le (ap₂ destination_cmp from.is to.is)) ∙ destinations_le a b h k f less)

      longer : p.1 ≡ q.1 → q.0 ≤ p.0
      longer ends =
          let alike : last_shown from.d ≡ last_shown to.d = sym (ap (λ (x : ℕ × ℕ). x.1) from.span) ∙ ends ∙ ap (λ (x : ℕ × ℕ). x.1) to.span in
          let short : to.d.2 ≤ from.d.2 = order.longer alike in
          let low : 2 ^ (width_of to.d.0 - from.d.2) ≤ 2 ^ (width_of to.d.0 - to.d.2) = pow_mono (omega (arith, short)) in
          let some : 0 < 2 ^ (width_of to.d.0 - from.d.2) = pow_pos (width_of to.d.0 - from.d.2) in
          let own : last_shown from.d ≡ from.d.1 + 2 ^ (width_of to.d.0 - from.d.2) - 1 = ap (λ x. from.d.1 + 2 ^ (width_of x - from.d.2) - 1) same in
          let first_from : p.0 ≡ from.d.1 = ap (λ (x : ℕ × ℕ). x.0) from.span in
          let first_to : q.0 ≡ to.d.1 = ap (λ (x : ℕ × ℕ). x.0) to.span in
          omega (arith, alike, low, some, own, first_from, first_to)

pair_bare : (a b : Ruled) → IsRule a → IsRule b → a.family ≡ b.family → rule_cmp a b ≡ Less → span_of a ≡ None → span_of b ≡ None
pair_bare a b h k f less e = at (destination_of a) (destination_of b) e (destinations_le a b h k f less) where
  at : (d t : Option (Family × ℕ × ℕ)) → span_by d ≡ None → is_le (destination_cmp d t) ≡ true
      → span_by t ≡ None
  at d None e g = refl
  at None (Some t) e g = absurd (true≢false (sym g))
  at (Some d) (Some t) e g = absurd (none-some (d.1, last_shown d) (sym e))

-- One behind the other, of which any may have no destination.
abbrev pub Follows : Option (ℕ × ℕ) → Option (ℕ × ℕ) → Type 0
Follows None None = Unit {0}
Follows None (Some q) = ⊥
Follows (Some p) None = Unit {0}
Follows (Some p) (Some q) = Fits p q

pub follows_none : (s : Option (ℕ × ℕ)) → Follows s None
follows_none None = tt
follows_none (Some p) = tt

-- each later one follows the first
later_follows : (family : Family) (a : FlowRoute) (rs : List FlowRoute) → IsRuleOf family a → AllByRecursion (IsRuleOf family) rs
    → AllByRecursion (λ s. rule_cmp a.rule s.rule ≡ Less) rs
    → (j : ℕ) → Follows (span_of a.rule) (get_or (spans_of (map listed rs)) j None)
later_follows family a [] own each less j = follows_none (span_of a.rule)
later_follows family a (b ∷ rs) own each less zero = at (span_of a.rule) (span_of b.rule) refl refl where
  same : a.rule.family ≡ b.rule.family
  same = own.family ∙ sym each.0.family

  at : (s t : Option (ℕ × ℕ)) → span_of a.rule ≡ s → span_of b.rule ≡ t → Follows s t
  at s None e f = follows_none s
  at None (Some q) e f = absurd (none-some q (sym (pair_bare a.rule b.rule own.rule each.0.rule same less.0 e) ∙ f))
  at (Some p) (Some q) e f = pair_fits a.rule b.rule p q own.rule each.0.rule same less.0 e f
later_follows family a (b ∷ rs) own each less (suc j) = later_follows family a rs own each.1 less.1 j

follow : (family : Family) (rs : List FlowRoute) → AllByRecursion (IsRuleOf family) rs → AreOrdered rs → (i j : ℕ) → i < j
    → Follows (get_or (spans_of (map listed rs)) i None) (get_or (spans_of (map listed rs)) j None)
follow family [] each ordered i j less = tt
follow family (r ∷ rs) each ordered i zero less = absurd (omega (arith, less))
follow family (r ∷ rs) each ordered zero (suc j) less = later_follows family r rs each.0 each.1 ordered.0 j
follow family (r ∷ rs) each ordered (suc i) (suc j) less = follow family rs each.1 ordered.1 i j (omega (arith, less))

pub nesting_from : (xs : List (Option (ℕ × ℕ))) → ((i j : ℕ) → i < j → Follows (get_or xs i None) (get_or xs j None)) → AreNesting xs
nesting_from xs h = record {
  rising = λ i j p q less e f. (fit i j p q less e f).0;
  nested = λ i j p q less e f. (fit i j p q less e f).1;
  bare = λ i j le e. at i j e (cases_lt i j) le;
} where
  fit : (i j : ℕ) (p q : ℕ × ℕ) → i < j → get_or xs i None ≡ Some p → get_or xs j None ≡ Some q → Fits p q
  fit i j p q less e f = subst (λ s. Follows s (Some q)) e (subst (Follows (get_or xs i None)) f (h i j less))

  none : (t : Option (ℕ × ℕ)) → Follows None t → t ≡ None
  none None k = refl
  none (Some q) k = absurd k

  at : (i j : ℕ) → get_or xs i None ≡ None → (i < j) ⊎ (j ≤ i) → i ≤ j → get_or xs j None ≡ None
  at i j e (inl less) le = none (get_or xs j None) (subst (λ s. Follows s (get_or xs j None)) e (h i j less))
  at i j e (inr more) le = let same : i ≡ j = omega (arith, le, more) in subst (λ k. get_or xs k None ≡ None) same e

pub nesting : (family : Family) (rs : List FlowRoute) → AllByRecursion (IsRuleOf family) rs → AreOrdered rs → AreNesting (spans_of (map listed rs))
nesting family rs each ordered = nesting_from (spans_of (map listed rs)) (follow family rs each ordered)

pub all_of_family : (family : Family) (rs : List FlowRoute) → AllByRecursion (IsRuleOf family) rs → AllByRecursion (IsOfFamily family) (map listed rs)
all_of_family family [] each = tt
all_of_family family (r ∷ rs) each = (record { same = each.0.family; rule = each.0.rule }, all_of_family family rs each.1)
