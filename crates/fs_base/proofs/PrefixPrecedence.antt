-- The order of prefixes is what its words say.
use Rattle.fs_base.proofs.Words.{ℕ, ◌≡◌, ◌+◌, ◌-◌, ◌^◌, ◌<◌, ◌≤◌, ◌⊎◌, inl, inr, sym, ap, ◌∙◌, arith, true, false, nat_cmp, is_eq, Less, Equal}
use Rattle.fs_base.proofs.Words.{pow_pos, true≢false, ordering_then, cases_lt, nat_tests, V4, V6, Prefix, width_of, afi_of, covers, prefix_cmp}
use Rattle.fs_base.proofs.Words.{last_address, prefix_total}
use Rattle.fs_base.proofs.{Covers.{Covers, covers_fact, meeting_covers, same_width}, Nesting.{Alike, alike, alike_test}, Orderings.{equal_of_is_eq}}
use Rattle.fs_base.specs.Laws.{IsPrecedence}

first_family : (f g a b m n : ℕ) → f < g → ordering_then (nat_cmp f g) (ordering_then (nat_cmp a b) (nat_cmp n m)) ≡ Less
first_family f g a b m n h = grind (arith, nat_tests)

first_last : (f g a b m n : ℕ) → f ≡ g → a < b → ordering_then (nat_cmp f g) (ordering_then (nat_cmp a b) (nat_cmp n m)) ≡ Less
first_last f g a b m n h k = grind (arith, nat_tests)

longer_first : (f g a b m n : ℕ) → f ≡ g → a ≤ b → n < m → ordering_then (nat_cmp f g) (ordering_then (nat_cmp a b) (nat_cmp n m)) ≡ Less
longer_first f g a b m n h k l = grind (arith, nat_tests)

abbrev Same : (p q : Prefix) → Type 0
Same p q = (p.family ≡ q.family) × (p.bits ≡ q.bits) × (p.length ≡ q.length)

pub precedence_law : IsPrecedence prefix_cmp
precedence_law = record { total = prefix_total; families = families; nested = nested; apart = apart; same = same } where
  families : (p q : Prefix) → p.family ≡ V4 → q.family ≡ V6 → prefix_cmp p q ≡ Less
  families p q h k =
      let less : afi_of p.family < afi_of q.family = omega (arith, ap afi_of h, ap afi_of k) in
      first_family (afi_of p.family) (afi_of q.family) (last_address p) (last_address q) p.length q.length less

  nested : (p q : Prefix) → covers p q ≡ true → p.length < q.length → prefix_cmp q p ≡ Less
  nested p q h shorter = longer_first (afi_of q.family) (afi_of p.family) (last_address q) (last_address p) q.length p.length
      (sym (covers_fact p q h).family) ends shorter where
        fact : Covers p q
        fact = covers_fact p q h

        ends : last_address q ≤ last_address p
        ends =
            let last : last_address q ≡ q.bits + 2 ^ (width_of p.family - q.length) - 1 =
            ap (λ w. q.bits + 2 ^ (w - q.length) - 1) (sym (same_width p.family q.family fact.family)) in
            omega (arith, last, fact.ends)

  apart : (p q : Prefix) → p.family ≡ q.family → covers p q ≡ false → covers q p ≡ false → p.bits < q.bits → prefix_cmp p q ≡ Less
  apart p q family h k lower =
      first_last (afi_of p.family) (afi_of q.family) (last_address p) (last_address q) p.length q.length (ap afi_of family)
      (at (cases_lt (last_address p) (last_address q))) where
        width : width_of q.family ≡ width_of p.family
        width = ap width_of (sym family)

        last_q : last_address q ≡ q.bits + 2 ^ (width_of p.family - q.length) - 1
        last_q = ap (λ w. q.bits + 2 ^ (w - q.length) - 1) width

        size_p : 0 < 2 ^ (width_of p.family - p.length)
        size_p = pow_pos (width_of p.family - p.length)

        size_q : 0 < 2 ^ (width_of p.family - q.length)
        size_q = pow_pos (width_of p.family - q.length)

        size_same : 2 ^ (width_of q.family - q.length) ≡ 2 ^ (width_of p.family - q.length)
        size_same = ap (λ w. 2 ^ (w - q.length)) width

        size_back : 2 ^ (width_of q.family - p.length) ≡ 2 ^ (width_of p.family - p.length)
        size_back = ap (λ w. 2 ^ (w - p.length)) width

        meets : last_address q ≤ last_address p → (q.length < p.length) ⊎ (p.length ≤ q.length) → last_address p < last_address q
        meets over (inl shorter) =
            let low : q.bits < p.bits + 2 ^ (width_of q.family - p.length) = omega (arith, over, last_q, size_p, size_q, size_back) in
            let high : p.bits < q.bits + 2 ^ (width_of q.family - q.length) = omega (arith, lower, size_same, size_q) in
            absurd (true≢false (sym (meeting_covers q p (ap afi_of (sym family)) (omega arith) low high) ∙ k))
        meets over (inr longer) =
            let low : p.bits < q.bits + 2 ^ (width_of p.family - q.length) = omega (arith, lower, size_q) in
            let high : q.bits < p.bits + 2 ^ (width_of p.family - p.length) = omega (arith, over, last_q, size_p, size_q) in
            absurd (true≢false (sym (meeting_covers p q (ap afi_of family) longer low high) ∙ h))

        at : (last_address p < last_address q) ⊎ (last_address q ≤ last_address p) → last_address p < last_address q
        at (inl less) = less
        at (inr over) = meets over (cases_lt q.length p.length)

  same : (p q : Prefix) → (prefix_cmp p q ≡ Equal → Same p q) × (Same p q → prefix_cmp p q ≡ Equal)
  same p q = (there, back) where
    there : prefix_cmp p q ≡ Equal → Same p q
    there h = let e : Alike p q = alike p q (ap is_eq h) in (e.family, e.bits, e.length)

    back : Same p q → prefix_cmp p q ≡ Equal
    back h = equal_of_is_eq (prefix_cmp p q) (alike_test p q (record { family = h.0; length = h.2; bits = h.1 }))
