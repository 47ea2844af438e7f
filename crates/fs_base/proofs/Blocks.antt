-- Blocks of addresses, as plain numbers: where one lies in another.
use Rattle.std.proofs.{Common.{add-mul, mul-le-mul_right}, lemmas.Nat.{pow_pos}}
use Rattle.fs_base.proofs.Words.{ℕ, ◌≡◌, ◌+◌, ◌-◌, ◌*◌, ◌/◌, ◌%◌, ◌^◌, ◌<◌, ◌≤◌, sym, ap, ◌∙◌, subst, arith, mul_assoc, one-mul}
use Rattle.fs_base.proofs.Words.{lt_of_mul-lt-mul_right, div-add-mod', pow-add, mod_below, div-mul-add, mod-eq_of_lt, div-mul-le_self, Family, V4, V6}
use Rattle.fs_base.proofs.Words.{width_of, cleared}
pub use Rattle.fs_base.specs.Bits.{IsBlock, whole_width, block_cleared, block_below, block_of, block_again, cleared_again, min_short}

pub width_most : (f : Family) → 2 ^ width_of f ≤ 2 ^ 128
width_most V4 = omega arith
width_most V6 = omega arith

-- the highest address of a block is below the width's end
pub last_below : (f : Family) (w n b ones : ℕ) → IsBlock (width_of f) n b → w ≡ width_of f → ones ≡ 2 ^ (w - n) - 1 → b + ones < 2 ^ 128
last_below f w n b ones h e o = let within : b + 2 ^ (w - n) ≤ 2 ^ width_of f = subst (λ k. b + 2 ^ (k - n) ≤ 2 ^ width_of f) (sym e) h.within in
    let most : 2 ^ width_of f ≤ 2 ^ 128 = width_most f in
    let some : 0 < 2 ^ (w - n) = pow_pos (w - n) in omega arith

-- A block of size t, where T = c * t: it lies in the block of size T that its first address is in.
module _ (T t c k j p q : ℕ) (sized : T ≡ c * t) (some : 0 < t) (small : q ≡ j * t) where
  large_block : (k * c + c) * t ≡ k * T + T
  large_block = add-mul (k * c) c t ∙ ap (λ n. n + c * t) (mul_assoc k c t) ∙ ap (λ n. k * n + n) (sym sized)

  next_block : (j + 1) * t ≡ q + t
  next_block = add-mul j 1 t ∙ ap (λ n. j * t + n) (one-mul t) ∙ ap (λ n. n + t) (sym small)

  pub ends_within : q < k * T + T → q + t ≤ k * T + T
  ends_within below = let less : j * t < (k * c + c) * t = subst (λ n. n < (k * c + c) * t) small (subst (λ n. q < n) (sym large_block) below) in
      let counted : j < k * c + c = lt_of_mul-lt-mul_right t less in
      let fits : (j + 1) * t ≤ (k * c + c) * t = mul-le-mul_right t (let e : j + 1 ≤ k * c + c = omega arith in e) in
      subst (λ n. n ≤ k * T + T) next_block (subst (λ n. (j + 1) * t ≤ n) large_block fits)

  pub starts_within : k * T < q + t → k * T ≤ q
  starts_within below = let first : (k * c) * t ≡ k * T = mul_assoc k c t ∙ ap (λ n. k * n) (sym sized) in
      let less : (k * c) * t < (j + 1) * t = subst (λ n. n < (j + 1) * t) (sym first) (subst (λ n. k * T < n) (sym next_block) below) in
      let counted : k * c < j + 1 = lt_of_mul-lt-mul_right t less in
      let fits : (k * c) * t ≤ j * t = mul-le-mul_right t (let e : k * c ≤ j = omega arith in e) in
      subst (λ n. n ≤ q) first (subst (λ n. (k * c) * t ≤ n) (sym small) fits)

-- a block in the larger one that its first bits are
pub inside : (T t c j p q : ℕ) → T ≡ c * t → 0 < t → 0 < T → q ≡ j * t → q / T * T ≡ p → (p ≤ q) × (q + t ≤ p + T)
inside T t c j p q sized some whole small first = (starts, ends) where
  starts : p ≤ q
  starts = subst (λ n. n ≤ q) first (div-mul-le_self q T)

  below : q < q / T * T + T
  below = let e : q / T * T + q % T ≡ q = div-add-mod' q T in let r : q % T < T = mod_below q T whole in omega arith

  ends : q + t ≤ p + T
  ends = subst (λ n. q + t ≤ n + T) first (ends_within T t c (q / T) j p q sized some small below)

-- a block that meets a larger one has its first bits
pub meeting : (T t c k j p q : ℕ) → T ≡ c * t → 0 < t → 0 < T → p ≡ k * T → q ≡ j * t → p < q + t → q < p + T → q / T * T ≡ p
meeting T t c k j p q sized some whole large small low high = ap (λ n. n * T) found ∙ sym large where
  starts : k * T ≤ q
  starts = starts_within T t c k j p q sized some small (subst (λ n. n < q + t) large low)

  rest : q ≡ k * T + (q - k * T)
  rest = let s : k * T ≤ q = starts in omega arith

  found : q / T ≡ k
  found = ap (λ n. n / T) rest ∙ div-mul-add k T (q - k * T) (let b : q < k * T + T = subst (λ n. q < n + T) large high in omega arith)

-- The same of blocks of n bits in the width w.
pub sizes : (w m n : ℕ) → m ≤ n → n ≤ w → 2 ^ (w - m) ≡ 2 ^ (n - m) * 2 ^ (w - n)
sizes w m n h k = let e : w - m ≡ (n - m) + (w - n) = omega arith in ap (λ i. 2 ^ i) e ∙ pow-add 2 (n - m) (w - n)

pub first_bits_of : (w m b : ℕ) → b < 2 ^ w → cleared w m b ≡ b / 2 ^ (w - m) * 2 ^ (w - m)
first_bits_of w m b h = ap (λ k. k / 2 ^ (w - m) * 2 ^ (w - m)) (mod-eq_of_lt h)

pub block_inside : (w m a n b : ℕ) → IsBlock w m a → IsBlock w n b → m ≤ n → cleared w m b ≡ a → (a ≤ b) × (b + 2 ^ (w - n) ≤ a + 2 ^ (w - m))
block_inside w m a n b large small h e =
    let first : b / 2 ^ (w - m) * 2 ^ (w - m) ≡ a = sym (first_bits_of w m b (block_below w n b small)) ∙ e in
    inside (2 ^ (w - m)) (2 ^ (w - n)) (2 ^ (n - m)) small.count a b (sizes w m n h small.short) (pow_pos (w - n)) (pow_pos (w - m)) small.spelled first

pub block_meeting : (w m a n b : ℕ) → IsBlock w m a → IsBlock w n b → m ≤ n → a < b + 2 ^ (w - n) → b < a + 2 ^ (w - m) → cleared w m b ≡ a
block_meeting w m a n b large small h low high =
    let even = sizes w m n h small.short in
    first_bits_of w m b (block_below w n b small)
    ∙ meeting (2 ^ (w - m)) (2 ^ (w - n)) (2 ^ (n - m)) large.count small.count a b even (pow_pos (w - n))
    (pow_pos (w - m)) large.spelled small.spelled low high

-- of two blocks that meet, the longer one doesn't end later
pub block_ending : (w m a n b : ℕ) → IsBlock w m a → IsBlock w n b → m ≤ n → b < a + 2 ^ (w - m) → b + 2 ^ (w - n) ≤ a + 2 ^ (w - m)
block_ending w m a n b large small h below =
    let even = sizes w m n h small.short in
    let low : b < large.count * 2 ^ (w - m) + 2 ^ (w - m) = subst (λ k. b < k + 2 ^ (w - m)) large.spelled below in
    let e = ends_within (2 ^ (w - m)) (2 ^ (w - n)) (2 ^ (n - m)) large.count small.count a b even (pow_pos (w - n)) small.spelled low in
    subst (λ k. b + 2 ^ (w - n) ≤ k + 2 ^ (w - m)) (sym large.spelled) e

-- an address is a block by itself
pub host_block : (w n b : ℕ) → IsBlock w n b → b ≡ cleared w w b
host_block w n b h = sym (first_bits_of w w b (block_below w n b h) ∙ ap (λ k. b / 2 ^ k * 2 ^ k) (sub-self w) ∙ one b) where
  sub-self : (k : ℕ) → k - k ≡ 0
  sub-self k = omega arith

  one : (k : ℕ) → k / 2 ^ 0 * 2 ^ 0 ≡ k
  one k = omega arith

pub width_least : (f : Family) → width_of f ≤ 128
width_least V4 = omega arith
width_least V6 = omega arith
