-- Prefixes compared by the bits that they know.
use Rattle.fs_shadow.proofs.Words.{◌≡◌, ℕ, ◌+◌, ◌-◌, ◌*◌, ◌/◌, ◌%◌, ◌^◌, ◌<◌, ◌≤◌, ◌==◌, Bool, true, false, ◌&&◌, ◌||◌, if◌then◌else◌, nat_le, nat_lt}
use Rattle.fs_shadow.proofs.Words.{refl, sym, ap, subst, ◌∙◌, arith, inl, inr, ◌⊎◌, and_parts, cases_Bool, cases_lt, eq-eqb, eqb-false, eqb-true}
use Rattle.fs_shadow.proofs.Words.{le-leb, lt-leb, ltb-false, ltb-true, or_cases, or_parts, pow-add, mul_assoc, Family, V4, V6, Prefix, afi_of}
use Rattle.fs_shadow.proofs.Words.{cleared, width_of, covers, V4Body, V6Body, IsSoundBody, is_prefix_of, Known, bits_lie_in, all_below, body_lies_in}
use Rattle.fs_shadow.proofs.Words.{implies, highest_with, lowest_with}
use Rattle.fs_shadow.proofs.Known.{counted, known_v4, known_v6, ordered, same_multiple, shift_dropped}
use Rattle.fs_shadow.proofs.Lying.{Knows, by_ends, inner_bits, no_bits}
use Rattle.fs_shadow.proofs.Patterns.{begins_within, bits_at, ends_within, first_of, highest_has, lowest_has, shifted}

both_same : (a b c : Bool) → a ≡ c → b ≡ c → c ≡ (a && b)
both_same true true c h k = sym h
both_same true false c h k = sym k
both_same false b c h k = sym h

module _ (w : ℕ) (inner outer : ℕ → Bool) (o n k v p m j u : ℕ) (knows : Knows w inner o n k v) (known : Knows w outer p m j u) where
  width : o + (n + k) ≡ p + (m + j)
  width = knows.width ∙ sym known.width

  -- no bit is known
  pub by_none : m ≡ 0 → true ≡ all_below (2 ^ w) (λ x. implies (inner x) (outer x))
  by_none none = both_same (outer (lowest_with k v)) (outer (highest_with o n k v)) true (at (lowest_with k v)) (at (highest_with o n k v))
      ∙ by_ends w inner outer o n k v p m j u knows known
    where
      small : u < 2 ^ 0
      small = subst (λ i. u < 2 ^ i) none known.small

      zero_is : 0 ≡ u
      zero_is = omega (arith, small)

      at : (x : ℕ) → outer x ≡ true
      at x = known.says x ∙ eq-eqb (bits_at m j x) u (ap (λ i. bits_at i j x) none ∙ no_bits j x ∙ zero_is)

  -- the bits known by the outer test are known by the inner one
  pub by_same : o ≤ p → k ≤ j → (bits_at m (j - k) v == u) ≡ all_below (2 ^ w) (λ x. implies (inner x) (outer x))
  by_same first last =
      both_same (outer (lowest_with k v)) (outer (highest_with o n k v)) (bits_at m (j - k) v == u)
      (at (lowest_with k v) (lowest_has n k v knows.small)) (at (highest_with o n k v) (highest_has o n k v knows.small))
      ∙ by_ends w inner outer o n k v p m j u knows known
    where
      at : (x : ℕ) → bits_at n k x ≡ v → outer x ≡ (bits_at m (j - k) v == u)
      at x e = known.says x ∙ ap (λ q. q == u) (inner_bits o n k v p m j x width first last e)

  -- one of them isn't
  pub by_less : 0 < m → (p < o) ⊎ (j < k) → false ≡ all_below (2 ^ w) (λ x. implies (inner x) (outer x))
  by_less some beyond = sym (elim (cases_Bool (outer (lowest_with k v) && outer (highest_with o n k v)))
      [ inl both ↦ absurd (refuted both) | inr none ↦ none ]) ∙ by_ends w inner outer o n k v p m j u knows known
    where
      refuted : (outer (lowest_with k v) && outer (highest_with o n k v)) ≡ true → ⊥
      refuted both =
          let h = and_parts (outer (lowest_with k v)) (outer (highest_with o n k v)) both in
          let low : bits_at m j (lowest_with k v) ≡ u = eqb-true (bits_at m j (lowest_with k v)) u (sym (known.says (lowest_with k v)) ∙ h.0) in
          let high : bits_at m j (highest_with o n k v) ≡ u = eqb-true (bits_at m j (highest_with o n k v)) u (sym (known.says (highest_with o n k v)) ∙ h.1) in
          let same : bits_at m j (lowest_with k v) ≡ bits_at m j (highest_with o n k v) = low ∙ sym high in
          let last : k ≤ j = ends_within o n k v m j some same in
          let first : o ≤ p = begins_within o n k v p m j knows.small some width same in
          elim beyond [ inl before ↦ omega (arith, before, first) | inr behind ↦ omega (arith, behind, last) ]

-- the bits of a prefix at another's place, as the code takes them
same_first : (w m o a n p b x y : ℕ) → m ≡ o + x → n ≡ p + y → m ≤ w → o ≤ p → n ≤ m → a ≡ cleared w x a → b ≡ cleared w y b
    → (cleared w y (a * 2 ^ (p - o)) == b) ≡ (bits_at y ((w - n) - (w - m)) (a / 2 ^ (w - x)) == b / 2 ^ (w - y))
same_first w m o a n p b x y own other short first last clear also =
    (λ i. cut i == spelled i) ∙ same_multiple (bits_at y (w - y) (a * 2 ^ (p - o))) (b / 2 ^ (w - y)) (w - y) ∙ ap (λ q. q == b / 2 ^ (w - y)) moved
  where
    split : w ≡ y + (w - y)
    split = omega arith

    cut : cleared w y (a * 2 ^ (p - o)) ≡ bits_at y (w - y) (a * 2 ^ (p - o)) * 2 ^ (w - y)
    cut = ap (λ q. cleared q y (a * 2 ^ (p - o))) split ∙ first_of y (w - y) (a * 2 ^ (p - o))

    spelled : b ≡ b / 2 ^ (w - y) * 2 ^ (w - y)
    spelled = counted y (w - y) b (subst (λ q. b ≡ cleared q y b) split also)

    whole : w ≡ x + (w - x)
    whole = omega arith

    from : a ≡ a / 2 ^ (w - x) * 2 ^ (w - x)
    from = counted x (w - x) a (subst (λ q. a ≡ cleared q x a) whole clear)

    up : a * 2 ^ (p - o) ≡ a / 2 ^ (w - x) * 2 ^ ((w - x) + (p - o))
    up = ap (λ q. q * 2 ^ (p - o)) from ∙ mul_assoc (a / 2 ^ (w - x)) (2 ^ (w - x)) (2 ^ (p - o))
        ∙ ap (λ q. a / 2 ^ (w - x) * q) (sym (pow-add 2 (w - x) (p - o)))

    place : w - y ≡ ((w - x) + (p - o)) + ((w - n) - (w - m))
    place = omega arith

    moved : bits_at y (w - y) (a * 2 ^ (p - o)) ≡ bits_at y ((w - n) - (w - m)) (a / 2 ^ (w - x))
    moved = (λ i. bits_at y (place i) (up i)) ∙ shifted y ((w - x) + (p - o)) ((w - n) - (w - m)) (a / 2 ^ (w - x))

pub v4_same : (f g : Family) (m a n b : ℕ) → IsSoundBody (V4Body f m a) → IsSoundBody (V4Body g n b) → n ≤ m
    → (cleared 32 n a == b) ≡ body_lies_in 1 (V4Body f m a) (V4Body g n b)
v4_same f g m a n b sound also last =
    (let e : a ≡ a * 2 ^ 0 = omega arith in ap (λ q. cleared 32 n q == b) e)
    ∙ same_first 32 m 0 a n 0 b m n (omega arith) (omega arith) sound.1 (omega arith) last sound.2 also.2
    ∙ by_same 32 (λ x. is_prefix_of (V4Body f m a) (V4 x)) (λ x. is_prefix_of (V4Body g n b) (V4 x)) 0 m (32 - m) (a / 2 ^ (32 - m)) 0 n (32 - n)
    (b / 2 ^ (32 - n))
    (known_v4 f m a sound) (known_v4 g n b also) (omega arith) (omega arith)

pub v4_less : (f g : Family) (m a n b : ℕ) → IsSoundBody (V4Body f m a) → IsSoundBody (V4Body g n b) → m < n
    → false ≡ body_lies_in 1 (V4Body f m a) (V4Body g n b)
v4_less f g m a n b sound also less =
    by_less 32 (λ x. is_prefix_of (V4Body f m a) (V4 x)) (λ x. is_prefix_of (V4Body g n b) (V4 x)) 0 m (32 - m) (a / 2 ^ (32 - m)) 0 n (32 - n)
    (b / 2 ^ (32 - n))
    (known_v4 f m a sound) (known_v4 g n b also) (omega arith) (inr (let s : n ≤ 32 = also.1 in omega arith))

pub v6_none : (m o a n p b : ℕ) → IsSoundBody (V6Body m o a) → IsSoundBody (V6Body n p b) → n ≡ 0 → true ≡ body_lies_in 1 (V6Body m o a) (V6Body n p b)
v6_none m o a n p b sound also none =
    by_none 128 (λ x. is_prefix_of (V6Body m o a) (V6 x)) (λ x. is_prefix_of (V6Body n p b) (V6 x)) o (m - o) (128 - m) (a / 2 ^ (128 - (m - o))) p
    (n - p) (128 - n) (b / 2 ^ (128 - (n - p)))
    (known_v6 m o a sound) (known_v6 n p b also) (omega arith)

-- bits are known unless the length is 0
pub some_known : (n p b : ℕ) → IsSoundBody (V6Body n p b) → (n ≡ 0 → ⊥) → p < n
some_known n p b sound some = at sound.0.1
  where
    at : (p < n) ⊎ ((n ≡ 0) × (p ≡ 0)) → p < n
    at (inl less) = less
    at (inr none) = absurd (some none.0)

pub v6_less : (m o a n p b : ℕ) → IsSoundBody (V6Body m o a) → IsSoundBody (V6Body n p b) → (n ≡ 0 → ⊥) → (p < o) ⊎ (m < n)
    → false ≡ body_lies_in 1 (V6Body m o a) (V6Body n p b)
v6_less m o a n p b sound also some beyond =
    by_less 128 (λ x. is_prefix_of (V6Body m o a) (V6 x)) (λ x. is_prefix_of (V6Body n p b) (V6 x)) o (m - o) (128 - m) (a / 2 ^ (128 - (m - o))) p
    (n - p) (128 - n) (b / 2 ^ (128 - (n - p)))
    (known_v6 m o a sound) (known_v6 n p b also) (let l : p < n = some_known n p b also some in omega arith) (at beyond)
  where
    at : (p < o) ⊎ (m < n) → (p < o) ⊎ (128 - n < 128 - m)
    at (inl before) = inl before
    at (inr behind) = inr (let s : n ≤ 128 = also.0.0 in omega arith)

pub v6_same : (m o a n p b : ℕ) → IsSoundBody (V6Body m o a) → IsSoundBody (V6Body n p b) → o ≤ p → n ≤ m
    → (cleared 128 (n - p) (a * 2 ^ (p - o)) == b) ≡ body_lies_in 1 (V6Body m o a) (V6Body n p b)
v6_same m o a n p b sound also first last =
    (let inner : o ≤ m = ordered m o sound.0 in
    let outer : p ≤ n = ordered n p also.0 in
    same_first 128 m o a n p b (m - o) (n - p) (omega arith) (omega arith) sound.0.0 first last sound.1 also.1)
    ∙ by_same 128 (λ x. is_prefix_of (V6Body m o a) (V6 x)) (λ x. is_prefix_of (V6Body n p b) (V6 x)) o (m - o) (128 - m) (a / 2 ^ (128 - (m - o))) p
    (n - p) (128 - n) (b / 2 ^ (128 - (n - p)))
    (known_v6 m o a sound) (known_v6 n p b also) first (omega arith)

-- as the code tells it
v4_tests : (f g : Family) (m a n b : ℕ) → IsSoundBody (V4Body f m a) → IsSoundBody (V4Body g n b)
    → ((afi_of g == afi_of f) && (nat_le n m && (cleared (width_of g) n a == b))) ≡ body_lies_in 1 (V4Body f m a) (V4Body g n b)
v4_tests f g m a n b sound also =
    (λ i. (afi_of (also.0 i) == afi_of (sound.0 i)) && (nat_le n m && (cleared (width_of (also.0 i)) n a == b)))
    ∙ elim (cases_lt m n) [
      | inl less ↦ ap (λ (c : Bool). c && (cleared 32 n a == b)) (lt-leb n m less) ∙ v4_less f g m a n b sound also less
      | inr most ↦ ap (λ (c : Bool). c && (cleared 32 n a == b)) (le-leb n m most) ∙ v4_same f g m a n b sound also most
    ]

pub v4_covers : (x y : Prefix) → IsSoundBody (V4Body x.family x.length x.bits) → IsSoundBody (V4Body y.family y.length y.bits)
    → covers y x ≡ body_lies_in 1 (V4Body x.family x.length x.bits) (V4Body y.family y.length y.bits)
v4_covers x y sound also = v4_tests x.family y.family x.length x.bits y.length y.bits sound also

pub v6_covers : (x y : Known) → IsSoundBody (V6Body x.length x.offset x.pattern) → IsSoundBody (V6Body y.length y.offset y.pattern)
    → bits_lie_in x y ≡ body_lies_in 1 (V6Body x.length x.offset x.pattern) (V6Body y.length y.offset y.pattern)
v6_covers x y sound also = at (y.length == 0) refl
  where
    same : Bool
    same = cleared 128 (y.length - y.offset) (x.pattern * 2 ^ (y.offset - x.offset) % 2 ^ 128) == y.pattern

    beyond : (nat_lt y.offset x.offset || nat_lt x.length y.length) ≡ true → (y.offset < x.offset) ⊎ (x.length < y.length)
    beyond h = elim (or_cases (nat_lt y.offset x.offset) (nat_lt x.length y.length) h)
        [ inl before ↦ inl (ltb-true y.offset x.offset before) | inr behind ↦ inr (ltb-true x.length y.length behind) ]

    by : (y.length ≡ 0 → ⊥) → (c : Bool) → (nat_lt y.offset x.offset || nat_lt x.length y.length) ≡ c
        → (if c then false else same) ≡ body_lies_in 1 (V6Body x.length x.offset x.pattern) (V6Body y.length y.offset y.pattern)
    by some true h = v6_less x.length x.offset x.pattern y.length y.offset y.pattern sound also some (beyond h)
    by some false h =
        let p = or_parts (nat_lt y.offset x.offset) (nat_lt x.length y.length) h in
        let first : x.offset ≤ y.offset = ltb-false y.offset x.offset p.0 in
        let last : y.length ≤ x.length = ltb-false x.length y.length p.1 in
        ap (λ q. q == y.pattern) (shift_dropped (y.length - y.offset) (x.pattern * 2 ^ (y.offset - x.offset)))
        ∙ v6_same x.length x.offset x.pattern y.length y.offset y.pattern sound also first last

    at : (c : Bool) → (y.length == 0) ≡ c
        → (if c then true else if nat_lt y.offset x.offset || nat_lt x.length y.length then false else same)
        ≡ body_lies_in 1 (V6Body x.length x.offset x.pattern) (V6Body y.length y.offset y.pattern)
    at true e = v6_none x.length x.offset x.pattern y.length y.offset y.pattern sound also (eqb-true y.length 0 e)
    at false e = by (eqb-false y.length 0 e) (nat_lt y.offset x.offset || nat_lt x.length y.length) refl
