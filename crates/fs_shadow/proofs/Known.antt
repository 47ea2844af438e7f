-- The bits that a prefix knows, in either family.
use Rattle.fs_shadow.proofs.Words.{◌≡◌, ℕ, ◌+◌, ◌-◌, ◌*◌, ◌/◌, ◌%◌, ◌^◌, ◌<◌, ◌≤◌, ◌==◌, Bool, refl, sym, ap, subst, ◌∙◌, arith, bit_or, inl, inr}
use Rattle.fs_shadow.proofs.Words.{◌⊎◌, eq-eqb, eqb-true, or_comm, or_shifted, pow-add, pow_pos, shl-shr, shr_high, add-mul, mod-mod, mul_assoc}
use Rattle.fs_shadow.proofs.Words.{Family, V4, V6, cleared, same_tests, V4Body, V6Body, IsSoundBody, is_prefix_of, highest_with, lowest_with}
use Rattle.fs_shadow.proofs.Lying.{Knows, row}
use Rattle.fs_shadow.proofs.Patterns.{below_all, bits_at, bits_below, first_of, first_shifted, ones_split}
use Rattle.fs_nlri.specs.Spelling.{IsRange}

-- a multiple is told by its count
pub same_multiple : (a b k : ℕ) → (a * 2 ^ k == b * 2 ^ k) ≡ (a == b)
same_multiple a b k =
    same_tests (a * 2 ^ k == b * 2 ^ k) (a == b)
    (λ h. eq-eqb a b (sym (shl-shr a k) ∙ ap (λ q. q / 2 ^ k) (eqb-true (a * 2 ^ k) (b * 2 ^ k) h) ∙ shl-shr b k))
    (λ h. eq-eqb (a * 2 ^ k) (b * 2 ^ k) (ap (λ q. q * 2 ^ k) (eqb-true a b h)))

-- a pattern whose first n bits count is a multiple
pub counted : (n m p : ℕ) → p ≡ cleared (n + m) n p → p ≡ p / 2 ^ m * 2 ^ m
counted n m p clear =
    let e : p ≡ bits_at n m p * 2 ^ m = clear ∙ first_of n m p in
    e ∙ sym (ap (λ q. q / 2 ^ m * 2 ^ m) e ∙ ap (λ q. q * 2 ^ m) (shl-shr (bits_at n m p) m))

count_below : (n m p : ℕ) → p ≡ cleared (n + m) n p → p / 2 ^ m < 2 ^ n
count_below n m p clear =
    subst (λ q. q < 2 ^ n) (sym (ap (λ q. q / 2 ^ m) (clear ∙ first_of n m p) ∙ shl-shr (bits_at n m p) m)) (bits_below n m p)

known_at : (n o k p : ℕ) (test : ℕ → Bool) → p ≡ cleared (n + (o + k)) n p → ((x : ℕ) → test x ≡ (cleared (n + (o + k)) n (x * 2 ^ o) == p))
    → Knows (n + (o + k)) test o n k (p / 2 ^ (o + k))
known_at n o k p test clear says = record {
  width = omega arith;
  small = count_below n (o + k) p clear;
  says = λ x.
      says x
      ∙ (λ i. first_shifted n o k x i == counted n (o + k) p clear i)
      ∙ same_multiple (bits_at n k x) (p / 2 ^ (o + k)) (o + k);
}

known : (w n o k p : ℕ) (test : ℕ → Bool) → w ≡ n + (o + k) → p ≡ cleared w n p → ((x : ℕ) → test x ≡ (cleared w n (x * 2 ^ o) == p))
    → Knows w test o n k (p / 2 ^ (o + k))
known w n o k p test e clear says =
    subst (λ j. p ≡ cleared j n p → ((x : ℕ) → test x ≡ (cleared j n (x * 2 ^ o) == p))
    → Knows j test o n k (p / 2 ^ (o + k))) (sym e) (known_at n o k p test) clear says

pub known_v4 : (family : Family) (len bits : ℕ) → IsSoundBody (V4Body family len bits)
    → Knows 32 (λ x. is_prefix_of (V4Body family len bits) (V4 x)) 0 len (32 - len) (bits / 2 ^ (32 - len))
known_v4 family len bits sound =
    let short : len ≤ 32 = sound.1 in
    let e : 32 ≡ len + (0 + (32 - len)) = omega arith in
    let f : 0 + (32 - len) ≡ 32 - len = omega arith in
    subst (λ j. Knows 32 (λ x. is_prefix_of (V4Body family len bits) (V4 x)) 0 len (32 - len) (bits / 2 ^ j)) f
    (known 32 len 0 (32 - len) bits (λ x. is_prefix_of (V4Body family len bits) (V4 x)) e sound.2 (λ x. let g : x ≡ x * 2 ^ 0 = omega arith in
    ap (λ y. cleared 32 len y == bits) g))

pub ordered : (len offset : ℕ) → IsRange len offset → offset ≤ len
ordered len offset range = at range.1
  where
    at : (offset < len) ⊎ ((len ≡ 0) × (offset ≡ 0)) → offset ≤ len
    at (inl less) = omega (arith, less)
    at (inr none) = omega (arith, none.0, none.1)

pub known_v6 : (len offset pattern : ℕ) → IsSoundBody (V6Body len offset pattern)
    → Knows 128 (λ x. is_prefix_of (V6Body len offset pattern) (V6 x)) offset (len - offset) (128 - len) (pattern / 2 ^ (128 - (len - offset)))
known_v6 len offset pattern sound =
    let short : len ≤ 128 = sound.0.0 in
    let o : offset ≤ len = ordered len offset sound.0 in
    let e : 128 ≡ (len - offset) + (offset + (128 - len)) = omega arith in
    let f : offset + (128 - len) ≡ 128 - (len - offset) = omega arith in
    subst (λ j. Knows 128 (λ x. is_prefix_of (V6Body len offset pattern) (V6 x)) offset (len - offset) (128 - len) (pattern / 2 ^ j)) f
    (known 128 (len - offset) offset (128 - len) pattern (λ x. is_prefix_of (V6Body len offset pattern) (V6 x)) e sound.1 (λ x. refl))

-- the highest number with some bits known, as it is computed
highest_at : (o n k v last : ℕ) → v < 2 ^ n → last ≡ v * 2 ^ (k + o) + (2 ^ (k + o) - 1)
    → bit_or (last / 2 ^ o) (2 ^ (o + (n + k)) - 1 - (2 ^ (o + (n + k)) - 1) / 2 ^ o) ≡ highest_with o n k v
highest_at o n k v last small e =
    (λ i. bit_or (below i) (above i))
    ∙ or_comm (v * 2 ^ k + (2 ^ k - 1)) ((2 ^ o - 1) * 2 ^ (n + k))
    ∙ or_shifted (2 ^ o - 1) (n + k) (v * 2 ^ k + (2 ^ k - 1))
    (subst (λ j. v * 2 ^ k + (2 ^ k - 1) < j) (sym (pow-add 2 n k)) (row v (2 ^ k) (2 ^ k - 1) (2 ^ n) small (below_all k)))
    ∙ joined
  where
    below : last / 2 ^ o ≡ v * 2 ^ k + (2 ^ k - 1)
    below = ap (λ q. q / 2 ^ o) (e ∙ split) ∙ shr_high (v * 2 ^ k + (2 ^ k - 1)) o (2 ^ o - 1) (below_all o)
      where
        split : v * 2 ^ (k + o) + (2 ^ (k + o) - 1) ≡ (v * 2 ^ k + (2 ^ k - 1)) * 2 ^ o + (2 ^ o - 1)
        split =
            let a : v * 2 ^ (k + o) ≡ v * 2 ^ k * 2 ^ o = ap (λ q. v * q) (pow-add 2 k o) ∙ sym (mul_assoc v (2 ^ k) (2 ^ o)) in
            let b : 2 ^ (k + o) - 1 ≡ (2 ^ k - 1) * 2 ^ o + (2 ^ o - 1) = ones_split k o in
            let c : (v * 2 ^ k + (2 ^ k - 1)) * 2 ^ o ≡ v * 2 ^ k * 2 ^ o + (2 ^ k - 1) * 2 ^ o = add-mul (v * 2 ^ k) (2 ^ k - 1) (2 ^ o) in
            omega arith

    above : 2 ^ (o + (n + k)) - 1 - (2 ^ (o + (n + k)) - 1) / 2 ^ o ≡ (2 ^ o - 1) * 2 ^ (n + k)
    above =
        let a : o + (n + k) ≡ (n + k) + o = omega arith in
        let b : (2 ^ (o + (n + k)) - 1) / 2 ^ o ≡ 2 ^ (n + k) - 1 =
        ap (λ j. (2 ^ j - 1) / 2 ^ o) a ∙ ap (λ q. q / 2 ^ o) (ones_split (n + k) o) ∙ shr_high (2 ^ (n + k) - 1) o (2 ^ o - 1) (below_all o) in
        let c : 2 ^ (o + (n + k)) - 1 ≡ (2 ^ o - 1) * 2 ^ (n + k) + (2 ^ (n + k) - 1) = ones_split o (n + k) in
        omega (arith, b, c)

    joined : (2 ^ o - 1) * 2 ^ (n + k) + (v * 2 ^ k + (2 ^ k - 1)) ≡ highest_with o n k v
    joined =
        let a : (2 ^ o - 1) * 2 ^ (n + k) ≡ (2 ^ o - 1) * 2 ^ n * 2 ^ k = ap (λ q. (2 ^ o - 1) * q) (pow-add 2 n k)
        ∙ sym (mul_assoc (2 ^ o - 1) (2 ^ n) (2 ^ k)) in
        let b : ((2 ^ o - 1) * 2 ^ n + v) * 2 ^ k ≡ (2 ^ o - 1) * 2 ^ n * 2 ^ k + v * 2 ^ k = add-mul ((2 ^ o - 1) * 2 ^ n) v (2 ^ k) in
        omega arith

-- of IPv6: the last address of the prefix that the pattern is
pub highest_of : (len offset pattern last : ℕ) → IsSoundBody (V6Body len offset pattern) → last ≡ pattern + 2 ^ (128 - (len - offset)) - 1
    → bit_or (last / 2 ^ offset) (2 ^ 128 - 1 - (2 ^ 128 - 1) / 2 ^ offset)
    ≡ highest_with offset (len - offset) (128 - len) (pattern / 2 ^ (128 - (len - offset)))
highest_of len offset pattern last sound e =
    ap (λ j. bit_or (last / 2 ^ offset) (2 ^ j - 1 - (2 ^ j - 1) / 2 ^ offset)) width
    ∙ highest_at offset (len - offset) (128 - len) (pattern / 2 ^ (128 - (len - offset))) last h.small (e ∙ whole)
  where
    h : Knows 128 (λ x. is_prefix_of (V6Body len offset pattern) (V6 x)) offset (len - offset) (128 - len) (pattern / 2 ^ (128 - (len - offset)))
    h = known_v6 len offset pattern sound

    width : 128 ≡ offset + ((len - offset) + (128 - len))
    width = sym h.width

    whole : pattern + 2 ^ (128 - (len - offset)) - 1 ≡ pattern / 2 ^ (128 - (len - offset)) * 2 ^ ((128 - len) + offset) + (2 ^ ((128 - len) + offset) - 1)
    whole =
        let f : (128 - len) + offset ≡ 128 - (len - offset) = omega (arith, h.width) in
        let p : 0 < 2 ^ (128 - (len - offset)) = pow_pos (128 - (len - offset)) in
        let c : pattern ≡ pattern / 2 ^ (128 - (len - offset)) * 2 ^ (128 - (len - offset)) =
        counted (len - offset) (128 - (len - offset)) pattern
        (subst (λ j. pattern ≡ cleared j (len - offset) pattern) (let g : 128 ≡ (len - offset) + (128 - (len - offset)) = omega (arith, h.width) in
        g) sound.1) in
        subst (λ j. pattern + 2 ^ (128 - (len - offset)) - 1 ≡ pattern / 2 ^ (128 - (len - offset)) * 2 ^ j + (2 ^ j - 1)) (sym f) (omega arith)

-- the lowest
pub lowest_of : (len offset pattern : ℕ) → IsSoundBody (V6Body len offset pattern)
    → pattern / 2 ^ offset ≡ lowest_with (128 - len) (pattern / 2 ^ (128 - (len - offset)))
lowest_of len offset pattern sound = ap (λ q. q / 2 ^ offset) whole ∙ shl-shr (lowest_with (128 - len) (pattern / 2 ^ (128 - (len - offset)))) offset
  where
    h : Knows 128 (λ x. is_prefix_of (V6Body len offset pattern) (V6 x)) offset (len - offset) (128 - len) (pattern / 2 ^ (128 - (len - offset)))
    h = known_v6 len offset pattern sound

    whole : pattern ≡ lowest_with (128 - len) (pattern / 2 ^ (128 - (len - offset))) * 2 ^ offset
    whole =
        let f : 128 - (len - offset) ≡ (128 - len) + offset = omega (arith, h.width) in
        counted (len - offset) (128 - (len - offset)) pattern
        (subst (λ j. pattern ≡ cleared j (len - offset) pattern) (let g : 128 ≡ (len - offset) + (128 - (len - offset)) = omega (arith, h.width) in
        g) sound.1)
        ∙ ap (λ j. pattern / 2 ^ (128 - (len - offset)) * 2 ^ j) f
        ∙ ap (λ q. pattern / 2 ^ (128 - (len - offset)) * q) (pow-add 2 (128 - len) offset)
        ∙ sym (mul_assoc (pattern / 2 ^ (128 - (len - offset))) (2 ^ (128 - len)) (2 ^ offset))

-- a shift drops the bits that the test doesn't see
pub shift_dropped : (n y : ℕ) → cleared 128 n (y % 2 ^ 128) ≡ cleared 128 n y
shift_dropped n y = ap (λ q. q / 2 ^ (128 - n) * 2 ^ (128 - n)) (mod-mod y (2 ^ 128))

-- of IPv4
pub v4_lowest : (len bits : ℕ) → len ≤ 32 → bits ≡ cleared 32 len bits → bits ≡ lowest_with (32 - len) (bits / 2 ^ (32 - len))
v4_lowest len bits short clear = counted len (32 - len) bits (subst (λ j. bits ≡ cleared j len bits) (let g : 32 ≡ len + (32 - len) = omega arith in g) clear)

pub v4_highest : (len bits last : ℕ) → len ≤ 32 → bits ≡ cleared 32 len bits → last ≡ bits + 2 ^ (32 - len) - 1
    → last ≡ highest_with 0 len (32 - len) (bits / 2 ^ (32 - len))
v4_highest len bits last short clear e =
    let p : 0 < 2 ^ (32 - len) = pow_pos (32 - len) in
    let c : bits ≡ bits / 2 ^ (32 - len) * 2 ^ (32 - len) = v4_lowest len bits short clear in
    let z : (2 ^ 0 - 1) * 2 ^ len + bits / 2 ^ (32 - len) ≡ bits / 2 ^ (32 - len) = omega arith in
    omega (arith, ap (λ q. q * 2 ^ (32 - len)) z)
