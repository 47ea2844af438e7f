-- Bits of numbers, n of them above the k lowest: when those at one place tell those at another.
use Rattle.fs_shadow.proofs.Words.{◌≡◌, ℕ, ◌+◌, ◌-◌, ◌*◌, ◌/◌, ◌%◌, ◌^◌, ◌<◌, ◌≤◌, inl, inr, sym, ap, subst, ◌∙◌, arith, field_of, mod_below, mod_low}
use Rattle.fs_shadow.proofs.Words.{pow-add, pow_pos, shl-shr, shr-shr, shr_high, add-mul, div-eq_of_lt, mod-eq_of_lt, mul_assoc, mul-mod_left}
use Rattle.fs_shadow.proofs.Words.{zero-div, cases_lt, cleared, highest_with, lowest_with}
use Rattle.std.proofs.Math.Pow.{mod-mod-pow}

-- the n bits above the k lowest
abbrev pub bits_at : (n k x : ℕ) → ℕ
bits_at n k x = x / 2 ^ k % 2 ^ n

pub bits_below : (n k x : ℕ) → bits_at n k x < 2 ^ n
bits_below n k x = mod_below (x / 2 ^ k) (2 ^ n) (pow_pos n)

-- the first n of n + m bits
pub first_of : (n m y : ℕ) → cleared (n + m) n y ≡ bits_at n m y * 2 ^ m
first_of n m y =
    let e : n + m - n ≡ m = omega arith in
    ap (λ j. y % 2 ^ (n + m) / 2 ^ j * 2 ^ j) e ∙ ap (λ q. q * 2 ^ m) (field_of y n m)

-- a shift to the left moves them up
pub shifted : (n o k x : ℕ) → bits_at n (o + k) (x * 2 ^ o) ≡ bits_at n k x
shifted n o k x = ap (λ q. q % 2 ^ n) (sym (shr-shr (x * 2 ^ o) o k) ∙ ap (λ q. q / 2 ^ k) (shl-shr x o))

pub first_shifted : (n o k x : ℕ) → cleared (n + (o + k)) n (x * 2 ^ o) ≡ bits_at n k x * 2 ^ (o + k)
first_shifted n o k x = first_of n (o + k) (x * 2 ^ o) ∙ ap (λ q. q * 2 ^ (o + k)) (shifted n o k x)

-- bits of bits
pub bits_of_bits : (e n d k x : ℕ) → bits_at n d (bits_at (e + (n + d)) k x) ≡ bits_at n (k + d) x
bits_of_bits e n d k x =
    sym (field_of (x / 2 ^ k % 2 ^ (e + (n + d))) n d)
    ∙ ap (λ q. q / 2 ^ d) (mod-mod-pow (x / 2 ^ k) e (n + d))
    ∙ field_of (x / 2 ^ k) n d
    ∙ ap (λ q. q % 2 ^ n) (shr-shr x k d)

-- all ones
pub ones_split : (i j : ℕ) → 2 ^ (i + j) - 1 ≡ (2 ^ i - 1) * 2 ^ j + (2 ^ j - 1)
ones_split i j = at (2 ^ i) (2 ^ j) (pow_pos i) (pow_pos j) (pow-add 2 i j)
  where
    at : (a b : ℕ) → 0 < a → 0 < b → {c : ℕ} → c ≡ a * b → c - 1 ≡ (a - 1) * b + (b - 1)
    at a b some more e =
        let f : a ≡ (a - 1) + 1 = omega arith in
        let g : a * b ≡ (a - 1) * b + 1 * b = ap (λ q. q * b) f ∙ add-mul (a - 1) 1 b in
        omega (arith, e, g)

pub lowest_has : (n k v : ℕ) → v < 2 ^ n → bits_at n k (lowest_with k v) ≡ v
lowest_has n k v small = ap (λ q. q % 2 ^ n) (shl-shr v k) ∙ mod-eq_of_lt small

pub below_all : (k : ℕ) → 2 ^ k - 1 < 2 ^ k
below_all k = let p : 0 < 2 ^ k = pow_pos k in omega arith

pub highest_has : (o n k v : ℕ) → v < 2 ^ n → bits_at n k (highest_with o n k v) ≡ v
highest_has o n k v small =
    ap (λ q. q % 2 ^ n) (shr_high ((2 ^ o - 1) * 2 ^ n + v) k (2 ^ k - 1) (below_all k)) ∙ mod_low (2 ^ o - 1) n v small

-- parity: the lowest of some bits
parity : (n k x : ℕ) → 0 < n → bits_at n k x % 2 ≡ x / 2 ^ k % 2
parity n k x some =
    let e : n ≡ (n - 1) + 1 = omega arith in
    subst (λ j. x / 2 ^ k % 2 ^ j % 2 ≡ x / 2 ^ k % 2) (sym e) (mod-mod-pow (x / 2 ^ k) (n - 1) 1)

even : (i v : ℕ) → v * 2 ^ (i + 1) % 2 ≡ 0
even i v = ap (λ q. q % 2) (ap (λ q. v * q) (pow-add 2 i 1) ∙ sym (mul_assoc v (2 ^ i) (2 ^ 1))) ∙ mul-mod_left (v * 2 ^ i) 2

odd : (i u : ℕ) → (u * 2 ^ (i + 1) + (2 ^ (i + 1) - 1)) % 2 ≡ 1
odd i u = ap (λ q. q % 2) split ∙ mod_low (u * 2 ^ i + (2 ^ i - 1)) 1 1 (omega arith)
  where
    split : u * 2 ^ (i + 1) + (2 ^ (i + 1) - 1) ≡ (u * 2 ^ i + (2 ^ i - 1)) * 2 ^ 1 + 1
    split =
        let a : u * 2 ^ (i + 1) ≡ u * 2 ^ i * 2 ^ 1 = ap (λ q. u * q) (pow-add 2 i 1) ∙ sym (mul_assoc u (2 ^ i) (2 ^ 1)) in
        let b : 2 ^ (i + 1) - 1 ≡ (2 ^ i - 1) * 2 ^ 1 + (2 ^ 1 - 1) = ones_split i 1 in
        omega arith

ones_odd : (o : ℕ) → (2 ^ (o + 1) - 1) % 2 ≡ 1
ones_odd o = let e : 2 ^ (o + 1) - 1 ≡ 0 * 2 ^ (o + 1) + (2 ^ (o + 1) - 1) = omega arith in ap (λ q. q % 2) e ∙ odd o 0

-- bits that end below the lowest that is known
low_even : (i k v : ℕ) → v * 2 ^ ((i + 1) + k) / 2 ^ k % 2 ≡ 0
low_even i k v =
    ap (λ q. q / 2 ^ k % 2) (ap (λ q. v * q) (pow-add 2 (i + 1) k) ∙ sym (mul_assoc v (2 ^ (i + 1)) (2 ^ k)))
    ∙ ap (λ q. q % 2) (shl-shr (v * 2 ^ (i + 1)) k) ∙ even i v

high_odd : (i k u : ℕ) → (u * 2 ^ ((i + 1) + k) + (2 ^ ((i + 1) + k) - 1)) / 2 ^ k % 2 ≡ 1
high_odd i k u = ap (λ q. q / 2 ^ k % 2) split ∙ ap (λ q. q % 2) (shr_high (u * 2 ^ (i + 1) + (2 ^ (i + 1) - 1)) k (2 ^ k - 1) (below_all k)) ∙ odd i u
  where
    split : u * 2 ^ ((i + 1) + k) + (2 ^ ((i + 1) + k) - 1) ≡ (u * 2 ^ (i + 1) + (2 ^ (i + 1) - 1)) * 2 ^ k + (2 ^ k - 1)
    split =
        let a : u * 2 ^ ((i + 1) + k) ≡ u * 2 ^ (i + 1) * 2 ^ k = ap (λ q. u * q) (pow-add 2 (i + 1) k) ∙ sym (mul_assoc u (2 ^ (i + 1)) (2 ^ k)) in
        let b : 2 ^ ((i + 1) + k) - 1 ≡ (2 ^ (i + 1) - 1) * 2 ^ k + (2 ^ k - 1) = ones_split (i + 1) k in
        let c : (u * 2 ^ (i + 1) + (2 ^ (i + 1) - 1)) * 2 ^ k ≡ u * 2 ^ (i + 1) * 2 ^ k + (2 ^ (i + 1) - 1) * 2 ^ k =
        add-mul (u * 2 ^ (i + 1)) (2 ^ (i + 1) - 1) (2 ^ k) in
        omega arith

-- bits that begin above the highest that is known
top_zero : (n k s v : ℕ) → v < 2 ^ n → v * 2 ^ k / 2 ^ ((k + n) + s) % 2 ≡ 0
top_zero n k s v small =
    ap (λ q. q % 2) (sym (shr-shr (v * 2 ^ k) (k + n) s)
    ∙ ap (λ q. q / 2 ^ s) (sym (shr-shr (v * 2 ^ k) k n) ∙ ap (λ q. q / 2 ^ n) (shl-shr v k) ∙ div-eq_of_lt small) ∙ zero-div (2 ^ s))

top_one : (o n k s v : ℕ) → v < 2 ^ n → highest_with ((o + 1) + s) n k v / 2 ^ ((k + n) + s) % 2 ≡ 1
top_one o n k s v small =
    ap (λ q. q % 2)
    (sym (shr-shr (highest_with ((o + 1) + s) n k v) (k + n) s)
    ∙ ap (λ q. q / 2 ^ s) (sym (shr-shr (highest_with ((o + 1) + s) n k v) k n)
    ∙ ap (λ q. q / 2 ^ n) (shr_high ((2 ^ ((o + 1) + s) - 1) * 2 ^ n + v) k (2 ^ k - 1) (below_all k))
    ∙ shr_high (2 ^ ((o + 1) + s) - 1) n v small)
    ∙ ap (λ q. q / 2 ^ s) (ones_split (o + 1) s)
    ∙ shr_high (2 ^ (o + 1) - 1) s (2 ^ s - 1) (below_all s))
    ∙ ones_odd o

-- the highest of some bits
top : (n k x : ℕ) → 0 < n → bits_at n k x / 2 ^ (n - 1) ≡ x / 2 ^ (k + (n - 1)) % 2
top n k x some =
    let e : n ≡ 1 + (n - 1) = omega arith in
    ap (λ j. x / 2 ^ k % 2 ^ j / 2 ^ (n - 1)) e ∙ field_of (x / 2 ^ k) 1 (n - 1) ∙ ap (λ q. q % 2) (shr-shr x k (n - 1))

differ : (a b : ℕ) → a ≡ 0 → b ≡ 1 → a ≡ b → ⊥
differ a b e f g = omega (arith, e, f, g)

-- where the lowest and the highest number that have some bits have the same bits at another place, that lies within
pub ends_within : (o n k v m j : ℕ) → 0 < m → bits_at m j (lowest_with k v) ≡ bits_at m j (highest_with o n k v) → k ≤ j
ends_within o n k v m j some same = elim (cases_lt j k) [ inl less ↦ absurd (at (k - j - 1) (omega arith)) | inr most ↦ most ]
  where
    at : (i : ℕ) → k ≡ (i + 1) + j → ⊥
    at i e =
        differ (bits_at m j (lowest_with k v) % 2) (bits_at m j (highest_with o n k v) % 2)
        (parity m j (lowest_with k v) some ∙ ap (λ q. v * 2 ^ q / 2 ^ j % 2) e ∙ low_even i j v)
        (parity m j (highest_with o n k v) some ∙ ap (λ q. (((2 ^ o - 1) * 2 ^ n + v) * 2 ^ q + (2 ^ q - 1)) / 2 ^ j % 2) e
        ∙ high_odd i j ((2 ^ o - 1) * 2 ^ n + v))
        (ap (λ q. q % 2) same)

pub begins_within : (o n k v p m j : ℕ) → v < 2 ^ n → 0 < m → o + (n + k) ≡ p + (m + j)
    → bits_at m j (lowest_with k v) ≡ bits_at m j (highest_with o n k v) → o ≤ p
begins_within o n k v p m j small some width same = elim (cases_lt p o) [ inl less ↦ absurd (at (o - p - 1) (omega arith) (omega arith)) | inr most ↦ most ]
  where
    at : (s : ℕ) → o ≡ (p + 1) + s → j + (m - 1) ≡ (k + n) + s → ⊥
    at s e f =
        differ (bits_at m j (lowest_with k v) / 2 ^ (m - 1)) (bits_at m j (highest_with o n k v) / 2 ^ (m - 1))
        (top m j (lowest_with k v) some ∙ ap (λ q. v * 2 ^ k / 2 ^ q % 2) f ∙ top_zero n k s v small)
        (top m j (highest_with o n k v) some ∙ ap (λ q. highest_with o n k v / 2 ^ q % 2) f ∙ ap (λ q. highest_with q n k v / 2 ^ ((k + n) + s) % 2) e
        ∙ top_one p n k s v small)
        (ap (λ q. q / 2 ^ (m - 1)) same)
