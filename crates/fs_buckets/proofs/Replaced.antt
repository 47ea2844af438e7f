-- Where the rules of one destination stand in a list, and the list with them put anew.
use Rattle.fs_buckets.proofs.Words.{◌≡◌, ℕ, ◌+◌, ◌-◌, ◌<◌, ◌≤◌, ◌⊎◌, inl, inr, refl, sym, ap, ap₂, subst, ◌∙◌, Bool, false, Option, Some, None, List}
use Rattle.fs_buckets.proofs.Words.{◌++◌, length, get_or, Ordering, Equal, Greater, arith, AllByRecursion, splice, is_gt, is_lt, cases_lt, length-map}
use Rattle.fs_buckets.proofs.Words.{Family, Listed, IsOfFamily, span_of, spans_of, IsStretch, place_by, span_cmp, replaced, AreNesting}
use Rattle.fs_buckets.proofs.Nesting.{Fits, Follows}
use Rattle.fs_buckets.proofs.Stretching.{Before, of_behind, of_same, three, less_equal, less_greater, equal_greater, same_of, behind_of, follows_at}
use Rattle.fs_buckets.proofs.Stretching.{proper_at}
use Rattle.fs_buckets.proofs.Parting.{ArePlaced, filter_back, filter_front}

-- The rules that a stretch leaves are those before and behind its destination.
pub replaced_is : (rules news : List Listed) (target : Option (ℕ × ℕ)) (from to : ℕ) → IsStretch (spans_of rules) target from to
    → replaced target news rules ≡ splice rules from to news
replaced_is rules news target from to s = ap₂ (λ zs bs. zs ++ (news ++ bs))
    (filter_front (λ r. span_of r.rule) (λ o. is_lt (place_by target o)) None rules from (λ k below inside. ap is_lt (s.before k below))
    (λ k above inside. at is_lt refl refl k above (inside_of k inside) (cases_lt k to)))
    (filter_back (λ r. span_of r.rule) (λ o. is_gt (place_by target o)) None rules to (λ k below inside. front k below (cases_lt k from))
    (λ k above inside. ap is_gt (s.behind k above (inside_of k inside)))) where
      inside_of : (k : ℕ) → k < length rules → k < length (spans_of rules)
      inside_of k below = subst (λ n. k < n) (sym (length-map rules (λ r. span_of r.rule))) below

      at : (test : Ordering → Bool) → test Equal ≡ false → test Greater ≡ false → (k : ℕ) → from ≤ k → k < length (spans_of rules)
          → (k < to) ⊎ (to ≤ k) → test (place_by target (get_or (spans_of rules) k None)) ≡ false
      at test e g k above inside (inl below) = ap test (s.at k above below) ∙ e
      at test e g k above inside (inr past) = ap test (s.behind k past inside) ∙ g

      front : (k : ℕ) → k < to → (k < from) ⊎ (from ≤ k) → is_gt (place_by target (get_or (spans_of rules) k None)) ≡ false
      front k below (inl early) = ap is_gt (s.before k early)
      front k below (inr above) = ap is_gt (s.at k above below)

-- A list whose destinations nest is in order by any of them.
pub placed : (family : Family) (rules : List Listed) (target : Option (ℕ × ℕ)) → AllByRecursion (IsOfFamily family) rules
    → AreNesting (spans_of rules) → ArePlaced (λ r. span_of r.rule) (place_by target) None rules
placed family rules target each h = record {
  equal = λ i j less below e. equal_from target (get_or (spans_of rules) i None) (get_or (spans_of rules) j None)
      (follows_at (spans_of rules) i j h less) (λ q f. proper_at family rules j q each f) e;
  behind = λ i j less below e. behind_from target (get_or (spans_of rules) i None) (get_or (spans_of rules) j None)
      (follows_at (spans_of rules) i j h less) (λ q f. proper_at family rules j q each f) e;
} where
  apart : (p q t : ℕ × ℕ) → Fits p q → q.0 ≤ q.1 → p.1 ≡ t.1 → p.0 ≡ t.0 → Before q t → ⊥
  apart p q t fits proper last first (inl less) = let a : p.1 ≤ q.1 = fits.0 in omega (arith, a, less, last)
  apart p q t fits proper last first (inr tied) =
      let ends : q.1 ≡ t.1 = tied.0 in
      let less : t.0 < q.0 = tied.1 in
      let a : q.0 ≤ p.0 = fits.1 (omega (arith, proper, ends, last)) in
      omega (arith, a, less, first)

  equal_from : (t s u : Option (ℕ × ℕ)) → Follows s u → ((q : ℕ × ℕ) → u ≡ Some q → q.0 ≤ q.1) → place_by t s ≡ Equal → is_lt (place_by t u) ≡ false
  equal_from None None None f proper e = refl
  equal_from None None (Some q) f proper e = absurd f
  equal_from None (Some p) u f proper e = absurd (less_equal e)
  equal_from (Some t) s None f proper e = refl
  equal_from (Some t) None (Some q) f proper e = absurd f
  equal_from (Some t) (Some p) (Some q) f proper e = at (three q t) (same_of p t e) where
    at : Before q t ⊎ (((q.1 ≡ t.1) × (q.0 ≡ t.0)) ⊎ Before t q) → (p.1 ≡ t.1) × (p.0 ≡ t.0) → is_lt (span_cmp q t) ≡ false
    at (inl b) s = absurd (apart p q t f (proper q refl) s.0 s.1 b)
    at (inr (inl b)) s = ap is_lt (of_same q t b.0 b.1)
    at (inr (inr b)) s = ap is_lt (of_behind q t b)

  onward : (p q t : ℕ × ℕ) → Fits p q → q.0 ≤ q.1 → Before t p → Before t q
  onward p q t fits proper (inl less) = let a : p.1 ≤ q.1 = fits.0 in inl (omega (arith, a, less))
  onward p q t fits proper (inr tied) = at (cases_lt t.1 q.1) where
    at : (t.1 < q.1) ⊎ (q.1 ≤ t.1) → Before t q
    at (inl less) = inl less
    at (inr le) =
        let a : p.1 ≤ q.1 = fits.0 in
        let ends : t.1 ≡ p.1 = tied.0 in
        let less : p.0 < t.0 = tied.1 in
        let b : q.0 ≤ p.0 = fits.1 (omega (arith, proper, le, ends)) in
        inr (omega (arith, le, a, ends), omega (arith, b, less))

  behind_from : (t s u : Option (ℕ × ℕ)) → Follows s u → ((q : ℕ × ℕ) → u ≡ Some q → q.0 ≤ q.1) → place_by t s ≡ Greater → place_by t u ≡ Greater
  behind_from None None u f proper e = absurd (equal_greater e)
  behind_from None (Some p) u f proper e = absurd (less_greater e)
  behind_from (Some t) s None f proper e = refl
  behind_from (Some t) None (Some q) f proper e = absurd f
  behind_from (Some t) (Some p) (Some q) f proper e = of_behind q t (onward p q t f (proper q refl) (behind_of p t e))
