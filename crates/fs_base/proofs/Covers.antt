-- Which prefixes lie under which, and how the order tells it.
use Rattle.std.proofs.Common.{nat_le}
use Rattle.fs_base.proofs.Words.{ℕ, ◌≡◌, ◌+◌, ◌-◌, ◌^◌, ◌<◌, ◌≤◌, ◌⊎◌, inl, inr, refl, sym, ap, ◌∙◌, subst, arith, true, ◌&&◌, ◌==◌, nat_cmp, is_le}
use Rattle.fs_base.proofs.Words.{pow_pos, true≢false, ordering_then, nat_tests, cases_lt, Family, V4, V6, Prefix, width_of, afi_of, cleared, covers}
use Rattle.fs_base.proofs.Words.{prefix_cmp, last_address}
use Rattle.fs_base.proofs.Bools.{and_both, and_first, and_second, same_tests}
use Rattle.fs_base.proofs.Blocks.{IsBlock, block_of, block_inside, block_meeting, block_ending}

pub same_family : (f g : Family) → afi_of f ≡ afi_of g → f ≡ g
same_family V4 V4 h = refl
same_family V4 V6 h = cc
same_family V6 V4 h = cc
same_family V6 V6 h = refl

pub same_width : (f g : Family) → afi_of f ≡ afi_of g → width_of f ≡ width_of g
same_width f g h = ap width_of (same_family f g h)

-- p covers q, in numbers: one family, and the block of q in that of p
pub record Covers (p q : Prefix) : Type 0 where
  pub family : afi_of p.family ≡ afi_of q.family
  pub longer : p.length ≤ q.length
  pub starts : p.bits ≤ q.bits
  pub ends : q.bits + 2 ^ (width_of p.family - q.length) ≤ p.bits + 2 ^ (width_of p.family - p.length)

pub block : (p : Prefix) → IsBlock (width_of p.family) p.length p.bits
block p = block_of (width_of p.family) p.length p.bits p.short p.clear

pub block_along : (p q : Prefix) → afi_of p.family ≡ afi_of q.family → IsBlock (width_of p.family) q.length q.bits
block_along p q h = subst (λ w. IsBlock w q.length q.bits) (sym (same_width p.family q.family h)) (block q)

-- the three tests of `covers`, in numbers
tests_true : (f g m n a b : ℕ) → ((f == g) && (nat_le m n && (a == b))) ≡ true → (f ≡ g) × (m ≤ n) × (a ≡ b)
tests_true f g m n a b h = (grind (arith, nat_tests), grind (arith, nat_tests), grind (arith, nat_tests))

true_tests : (f g m n a b : ℕ) → f ≡ g → m ≤ n → a ≡ b → ((f == g) && (nat_le m n && (a == b))) ≡ true
true_tests f g m n a b d e h = grind (arith, nat_tests)

-- what the tests say, where p covers q
abbrev Tested : (p q : Prefix) → Type 0
Tested p q = (afi_of p.family ≡ afi_of q.family) × (p.length ≤ q.length) × (cleared (width_of p.family) p.length q.bits ≡ p.bits)

tested : (p q : Prefix) → covers p q ≡ true → Tested p q
tested p q h = tests_true (afi_of p.family) (afi_of q.family) p.length q.length (cleared (width_of p.family) p.length q.bits) p.bits h

covers_tested : (p q : Prefix) → Tested p q → covers p q ≡ true
covers_tested p q t =
    true_tests (afi_of p.family) (afi_of q.family) p.length q.length (cleared (width_of p.family) p.length q.bits) p.bits t.0 t.1 t.2

pub covers_fact : (p q : Prefix) → covers p q ≡ true → Covers p q
covers_fact p q h =
    let t = tested p q h in
    let inner = block_inside (width_of p.family) p.length p.bits q.length q.bits (block p) (block_along p q t.0) t.1 t.2 in
    record { family = t.0; longer = t.1; starts = inner.0; ends = inner.1 }

-- q has the first bits of p
pub covers_bits : (p q : Prefix) → covers p q ≡ true → cleared (width_of p.family) p.length q.bits ≡ p.bits
covers_bits p q h = (tested p q h).2

pub covers_from_bits : (p q : Prefix) → p.family ≡ q.family → p.length ≤ q.length → cleared (width_of p.family) p.length q.bits ≡ p.bits → covers p q ≡ true
covers_from_bits p q f h e = covers_tested p q (ap afi_of f, h, e)

-- where two blocks of one family meet, the one with the shorter length covers the other
pub meeting_covers : (p q : Prefix) → afi_of p.family ≡ afi_of q.family → p.length ≤ q.length
    → p.bits < q.bits + 2 ^ (width_of p.family - q.length) → q.bits < p.bits + 2 ^ (width_of p.family - p.length) → covers p q ≡ true
meeting_covers p q f longer low high =
    let first = block_meeting (width_of p.family) p.length p.bits q.length q.bits (block p) (block_along p q f) longer low high in
    covers_tested p q (f, longer, first)

pub covers_test : (p q : Prefix) → Covers p q → covers p q ≡ true
covers_test p q h =
    let some : 0 < 2 ^ (width_of p.family - q.length) = pow_pos (width_of p.family - q.length) in
    meeting_covers p q h.family h.longer (omega (arith, some, h.starts)) (omega (arith, some, h.ends))

-- p isn't after q, in numbers
pub record Comes (p q : Prefix) : Type 0 where
  pub families : afi_of p.family ≤ afi_of q.family
  pub lasts : afi_of p.family ≡ afi_of q.family → last_address p ≤ last_address q
  pub lengths : afi_of p.family ≡ afi_of q.family → last_address p ≡ last_address q → q.length ≤ p.length

order_families : (f g a b m n : ℕ) → is_le (ordering_then (nat_cmp f g) (ordering_then (nat_cmp a b) (nat_cmp n m))) ≡ true → f ≤ g
order_families f g a b m n h = grind (arith, nat_tests)

order_lasts : (f g a b m n : ℕ) → is_le (ordering_then (nat_cmp f g) (ordering_then (nat_cmp a b) (nat_cmp n m))) ≡ true → f ≡ g → a ≤ b
order_lasts f g a b m n h e = grind (arith, nat_tests)

order_lengths : (f g a b m n : ℕ) → is_le (ordering_then (nat_cmp f g) (ordering_then (nat_cmp a b) (nat_cmp n m))) ≡ true → f ≡ g → a ≡ b → n ≤ m
order_lengths f g a b m n h e k = grind (arith, nat_tests)

order_test : (f g a b m n : ℕ) → f ≤ g → (f ≡ g → a ≤ b) → (f ≡ g → a ≡ b → n ≤ m)
    → is_le (ordering_then (nat_cmp f g) (ordering_then (nat_cmp a b) (nat_cmp n m))) ≡ true
order_test f g a b m n h e k = grind (arith, nat_tests)

pub comes : (p q : Prefix) → is_le (prefix_cmp p q) ≡ true → Comes p q
comes p q h = record {
  families = order_families (afi_of p.family) (afi_of q.family) (last_address p) (last_address q) p.length q.length h;
  lasts = order_lasts (afi_of p.family) (afi_of q.family) (last_address p) (last_address q) p.length q.length h;
  lengths = order_lengths (afi_of p.family) (afi_of q.family) (last_address p) (last_address q) p.length q.length h;
}

pub comes_test : (p q : Prefix) → Comes p q → is_le (prefix_cmp p q) ≡ true
comes_test p q h = order_test (afi_of p.family) (afi_of q.family) (last_address p) (last_address q) p.length q.length h.families h.lasts h.lengths

-- what p covers isn't after p
pub covered_before : (p q : Prefix) → covers p q ≡ true → is_le (prefix_cmp q p) ≡ true
covered_before p q h = comes_test q p (record { families = families; lasts = lasts; lengths = lengths }) where
  fact : Covers p q
  fact = covers_fact p q h

  width : width_of p.family ≡ width_of q.family
  width = same_width p.family q.family fact.family

  families : afi_of q.family ≤ afi_of p.family
  families = let e : afi_of p.family ≡ afi_of q.family = fact.family in omega arith

  ends : q.bits + 2 ^ (width_of q.family - q.length) ≤ p.bits + 2 ^ (width_of p.family - p.length)
  ends = subst (λ w. q.bits + 2 ^ (w - q.length) ≤ p.bits + 2 ^ (width_of p.family - p.length)) width fact.ends

  lasts : afi_of q.family ≡ afi_of p.family → last_address q ≤ last_address p
  lasts e = let k : q.bits + 2 ^ (width_of q.family - q.length) ≤ p.bits + 2 ^ (width_of p.family - p.length) = ends in omega arith

  lengths : afi_of q.family ≡ afi_of p.family → last_address q ≡ last_address p → p.length ≤ q.length
  lengths e k = fact.longer

-- what stands between low and p, where p covers low, p covers too
pub between_covered : (p low q : Prefix) → covers p low ≡ true → is_le (prefix_cmp low q) ≡ true → is_le (prefix_cmp q p) ≡ true → covers p q ≡ true
between_covered p low q h from to = at (cases_lt q.length p.length) where
  fact : Covers p low
  fact = covers_fact p low h

  above : Comes low q
  above = comes low q from

  below : Comes q p
  below = comes q p to

  family : afi_of p.family ≡ afi_of q.family
  family = omega (arith, above.families, below.families, fact.family)

  width : width_of q.family ≡ width_of p.family
  width = sym (same_width p.family q.family family)

  width_low : width_of low.family ≡ width_of p.family
  width_low = sym (same_width p.family low.family fact.family)

  last_q : last_address q ≡ q.bits + 2 ^ (width_of p.family - q.length) - 1
  last_q = ap (λ w. q.bits + 2 ^ (w - q.length) - 1) width

  last_low : last_address low ≡ low.bits + 2 ^ (width_of p.family - low.length) - 1
  last_low = ap (λ w. low.bits + 2 ^ (w - low.length) - 1) width_low

  low_to_q : last_address low ≤ last_address q
  low_to_q = above.lasts (sym fact.family ∙ family)

  q_to_p : last_address q ≤ last_address p
  q_to_p = below.lasts (sym family)

  size_q : 0 < 2 ^ (width_of p.family - q.length)
  size_q = pow_pos (width_of p.family - q.length)

  size_p : 0 < 2 ^ (width_of p.family - p.length)
  size_p = pow_pos (width_of p.family - p.length)

  size_low : 0 < 2 ^ (width_of p.family - low.length)
  size_low = pow_pos (width_of p.family - low.length)

  starts : p.bits < q.bits + 2 ^ (width_of p.family - q.length)
  starts = omega (arith, size_q, size_low, low_to_q, last_q, last_low, fact.starts)

  ends : q.bits < p.bits + 2 ^ (width_of p.family - p.length)
  ends = omega (arith, size_q, size_p, q_to_p, last_q)

  -- a longer p would end where q ends, and q would come after it
  back : q.length ≤ p.length → p.length ≤ q.length
  back shorter =
      let within = block_ending (width_of p.family) q.length q.bits p.length p.bits (block_along p q family) (block p) shorter starts in
      let same : last_address q ≡ last_address p = omega (arith, within, size_q, size_p, q_to_p, last_q) in
      below.lengths (sym family) same

  at : (q.length < p.length) ⊎ (p.length ≤ q.length) → covers p q ≡ true
  at (inl shorter) = meeting_covers p q family (back (omega arith)) starts ends
  at (inr longer) = meeting_covers p q family longer starts ends

-- the range law: f is the lowest address of p
pub range_law : (p f q : Prefix) → f.family ≡ p.family → f.bits ≡ p.bits → f.length ≡ width_of p.family
    → covers p q ≡ (is_le (prefix_cmp f q) && is_le (prefix_cmp q p))
range_law p f q family bits length = same_tests (covers p q) (is_le (prefix_cmp f q) && is_le (prefix_cmp q p)) there back where
  width : width_of f.family ≡ width_of p.family
  width = ap width_of family

  last : last_address f ≡ p.bits
  last = (λ i. bits i + 2 ^ (width i - length i) - 1) ∙ alone (width_of p.family) p.bits where
    alone : (w b : ℕ) → b + 2 ^ (w - w) - 1 ≡ b
    alone w b = let e : w - w ≡ 0 = omega arith in ap (λ k. b + 2 ^ k - 1) e ∙ (let h : b + 2 ^ 0 - 1 ≡ b = omega arith in h)

  size : 0 < 2 ^ (width_of p.family - p.length)
  size = pow_pos (width_of p.family - p.length)

  host : 2 ^ (width_of p.family - f.length) ≡ 1
  host = ap (λ n. 2 ^ (width_of p.family - n)) length ∙ (let e : width_of p.family - width_of p.family ≡ 0 = omega arith in ap (λ k. 2 ^ k) e)

  under : covers p f ≡ true
  under = covers_test p f (record {
    family = ap afi_of (sym family);
    longer = omega (arith, length, p.short);
    starts = omega (arith, bits);
    ends =
        omega (arith, host, size, bits);
  })

  first : covers p q ≡ true → Comes f q
  first h = let fact : Covers p q = covers_fact p q h in
      let w : width_of q.family ≡ width_of p.family = sym (same_width p.family q.family fact.family) in
      let e : last_address q ≡ q.bits + 2 ^ (width_of p.family - q.length) - 1 = ap (λ v. q.bits + 2 ^ (v - q.length) - 1) w in
      let s : 0 < 2 ^ (width_of p.family - q.length) = pow_pos (width_of p.family - q.length) in
      record {
        families = omega (arith, ap afi_of family, fact.family);
        lasts = λ _. omega (arith, last, e, s, fact.starts);
        lengths = λ _ _. omega (arith, length, q.short, w);
      }

  there : covers p q ≡ true → (is_le (prefix_cmp f q) && is_le (prefix_cmp q p)) ≡ true
  there h = and_both (is_le (prefix_cmp f q)) (is_le (prefix_cmp q p)) (comes_test f q (first h)) (covered_before p q h)

  back : (is_le (prefix_cmp f q) && is_le (prefix_cmp q p)) ≡ true → covers p q ≡ true
  back h = between_covered p f q under (and_first (is_le (prefix_cmp f q)) (is_le (prefix_cmp q p)) h)
      (and_second (is_le (prefix_cmp f q)) (is_le (prefix_cmp q p)) h)

pub same_family_of : (f g : Family) → (afi_of f == afi_of g) ≡ true → f ≡ g
same_family_of V4 V4 h = refl
same_family_of V4 V6 h = absurd (true≢false (sym h))
same_family_of V6 V4 h = absurd (true≢false (sym h))
same_family_of V6 V6 h = refl

pub family_itself : (family : Family) → (afi_of family == afi_of family) ≡ true
family_itself V4 = refl
family_itself V6 = refl
