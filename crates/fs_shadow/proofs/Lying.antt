-- When all numbers that have some bits have some others too: by their ends, and by the bits.
use Rattle.fs_shadow.proofs.Words.{◌≡◌, ℕ, ◌+◌, ◌-◌, ◌*◌, ◌/◌, ◌^◌, ◌<◌, ◌≤◌, ◌==◌, Bool, true, ◌&&◌, sym, ap, subst, ◌∙◌, arith, inl, inr, and_from}
use Rattle.fs_shadow.proofs.Words.{and_parts, cases_lt, eq-eqb, eqb-true, pow-add, pow_pos, shl_below, add-mul, mod-one, mul-le-mul_right, all_below}
use Rattle.fs_shadow.proofs.Words.{implies, highest_with, lowest_with}
use Rattle.fs_shadow.proofs.Below.{below_is, follows, implied}
use Rattle.fs_shadow.proofs.Patterns.{begins_within, bits_at, bits_of_bits, ends_within, highest_has, lowest_has}

-- a test of numbers of w bits passes those that have these bits: n of them above the k lowest, below the o highest
pub record Knows (w : ℕ) (test : ℕ → Bool) (o n k v : ℕ) : Type 0 where
  pub width : o + (n + k) ≡ w
  pub small : v < 2 ^ n
  pub says : (x : ℕ) → test x ≡ (bits_at n k x == v)

passes : (w o n k v x : ℕ) (test : ℕ → Bool) → Knows w test o n k v → bits_at n k x ≡ v → test x ≡ true
passes w o n k v x test h e = h.says x ∙ eq-eqb (bits_at n k x) v e

passed : (w o n k v x : ℕ) (test : ℕ → Bool) → Knows w test o n k v → test x ≡ true → bits_at n k x ≡ v
passed w o n k v x test h e = eqb-true (bits_at n k x) v (sym (h.says x) ∙ e)

pub row : (a b c m : ℕ) → a < m → c < b → a * b + c < m * b
row a b c m less inside =
    let e : (a + 1) * b ≡ a * b + 1 * b = add-mul a 1 b in
    let f : (a + 1) * b ≤ m * b = mul-le-mul_right b (let g : a + 1 ≤ m = omega arith in g) in
    omega arith

lowest_below : (w o n k v : ℕ) → o + (n + k) ≡ w → v < 2 ^ n → lowest_with k v < 2 ^ w
lowest_below w o n k v width small =
    let b : v * 2 ^ k < 2 ^ (n + k) = shl_below v n k small in
    let e : 2 ^ w ≡ 2 ^ o * 2 ^ (n + k) = ap (λ j. 2 ^ j) (sym width) ∙ pow-add 2 o (n + k) in
    let p : 0 < 2 ^ o = pow_pos o in
    let q : 1 * 2 ^ (n + k) ≤ 2 ^ o * 2 ^ (n + k) = mul-le-mul_right (2 ^ (n + k)) p in
    omega arith

highest_below : (w o n k v : ℕ) → o + (n + k) ≡ w → v < 2 ^ n → highest_with o n k v < 2 ^ w
highest_below w o n k v width small =
    let all : w ≡ (o + n) + k = omega (arith, width) in
    let p : 0 < 2 ^ o = pow_pos o in
    let q : 0 < 2 ^ k = pow_pos k in
    let a : (2 ^ o - 1) * 2 ^ n + v < 2 ^ (o + n) =
    subst (λ j. (2 ^ o - 1) * 2 ^ n + v < j) (sym (pow-add 2 o n)) (row (2 ^ o - 1) (2 ^ n) v (2 ^ o) (omega arith) small) in
    subst (λ j. highest_with o n k v < j) (sym (ap (λ j. 2 ^ j) all ∙ pow-add 2 (o + n) k))
    (row ((2 ^ o - 1) * 2 ^ n + v) (2 ^ k) (2 ^ k - 1) (2 ^ (o + n)) a (omega arith))

-- where the bits known lie within those known inside, the numbers inside tell them
pub inner_bits : (o n k v p m j x : ℕ) → o + (n + k) ≡ p + (m + j) → o ≤ p → k ≤ j → bits_at n k x ≡ v → bits_at m j x ≡ bits_at m (j - k) v
inner_bits o n k v p m j x width first last e =
    let f : n ≡ (p - o) + (m + (j - k)) = omega arith in
    let g : j ≡ k + (j - k) = omega arith in
    ap (λ i. bits_at m i x) g
    ∙ sym (bits_of_bits (p - o) m (j - k) k x)
    ∙ ap (λ i. bits_at m (j - k) (bits_at i k x)) (sym f)
    ∙ ap (bits_at m (j - k)) e

pub no_bits : (j x : ℕ) → bits_at 0 j x ≡ 0
no_bits j x = mod-one (x / 2 ^ j)

module _ (w : ℕ) (inner outer : ℕ → Bool) (o n k v p m j u : ℕ) (knows : Knows w inner o n k v) (known : Knows w outer p m j u) where
  width : o + (n + k) ≡ p + (m + j)
  width = knows.width ∙ sym known.width

  -- where the ends agree, all do
  agree : bits_at m j (lowest_with k v) ≡ u → bits_at m j (highest_with o n k v) ≡ u → (x : ℕ) → bits_at n k x ≡ v → bits_at m j x ≡ u
  agree low high x e = elim (cases_lt 0 m) [ inl some ↦ within some | inr none ↦ nothing none ]
    where
      same : bits_at m j (lowest_with k v) ≡ bits_at m j (highest_with o n k v)
      same = low ∙ sym high

      nothing : m ≤ 0 → bits_at m j x ≡ u
      nothing none =
          let z : m ≡ 0 = omega arith in
          ap (λ i. bits_at i j x) z ∙ no_bits j x ∙ sym (no_bits j (lowest_with k v)) ∙ sym (ap (λ i. bits_at i j (lowest_with k v)) z) ∙ low

      within : 0 < m → bits_at m j x ≡ u
      within some =
          let last : k ≤ j = ends_within o n k v m j some same in
          let first : o ≤ p = begins_within o n k v p m j knows.small some width same in
          inner_bits o n k v p m j x width first last e
          ∙ sym (inner_bits o n k v p m j (lowest_with k v) width first last (lowest_has n k v knows.small)) ∙ low

  pub by_ends : (outer (lowest_with k v) && outer (highest_with o n k v)) ≡ all_below (2 ^ w) (λ x. implies (inner x) (outer x))
  by_ends = below_is (outer (lowest_with k v) && outer (highest_with o n k v)) (2 ^ w) (λ x. implies (inner x) (outer x)) to from
    where
      to : (outer (lowest_with k v) && outer (highest_with o n k v)) ≡ true → (x : ℕ) → x < 2 ^ w → implies (inner x) (outer x) ≡ true
      to both x below =
          let h = and_parts (outer (lowest_with k v)) (outer (highest_with o n k v)) both in
          implied (inner x) (outer x)
          (λ e. passes w p m j u x outer known
          (agree (passed w p m j u (lowest_with k v) outer known h.0) (passed w p m j u (highest_with o n k v) outer known h.1) x
          (passed w o n k v x inner knows e)))

      at : ((x : ℕ) → x < 2 ^ w → implies (inner x) (outer x) ≡ true) → (x : ℕ) → x < 2 ^ w → bits_at n k x ≡ v → outer x ≡ true
      at each x below e = follows (inner x) (outer x) (each x below) (passes w o n k v x inner knows e)

      from : ((x : ℕ) → x < 2 ^ w → implies (inner x) (outer x) ≡ true) → (outer (lowest_with k v) && outer (highest_with o n k v)) ≡ true
      from each =
          and_from (outer (lowest_with k v)) (outer (highest_with o n k v))
          (at each (lowest_with k v) (lowest_below w o n k v knows.width knows.small) (lowest_has n k v knows.small))
          (at each (highest_with o n k v) (highest_below w o n k v knows.width knows.small) (highest_has o n k v knows.small))
