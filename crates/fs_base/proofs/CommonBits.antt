-- How many of the first bits of two numbers are the same.
use Rattle.std.{proofs.Common.{pow-add}, specs.Int.Bits.{xor_self}}
use Rattle.fs_base.proofs.Words.{ℕ, ◌≡◌, ◌+◌, ◌-◌, ◌*◌, ◌/◌, ◌%◌, ◌^◌, ◌<◌, ◌≤◌, ◌⊎◌, inl, inr, sym, ap, ◌∙◌, arith, bit_xor, pow_pos, pow_mono}
use Rattle.fs_base.proofs.Words.{zero-mul, mul-div_cancel, div-eq_of_lt, bit_at, cases_lt, xor_shr, xor_lt, leading_length, shr_split, mod_below}
use Rattle.fs_base.proofs.Words.{same_from_bits, bit_at_xor, bit_at-lt, bit_at-zero, cleared}
use lib.Count.{count_leading_zeros}
use Rattle.fs_base.proofs.Blocks.{first_bits_of}

same_from_xor : (a b : ℕ) → bit_xor a b ≡ 0 → a ≡ b
same_from_xor a b h = same_from_bits a b (λ i. let e : bit_at (bit_xor a b) i ≡ (bit_at a i + bit_at b i) % 2 = bit_at_xor a b i in
    let z : bit_at (bit_xor a b) i ≡ 0 = ap (λ n. bit_at n i) h ∙ bit_at-zero i in
    let s : bit_at a i < 2 = bit_at-lt a i in let t : bit_at b i < 2 = bit_at-lt b i in omega arith)

-- a power that isn't above twice a number and one: the number has that many digits
power_within : (m h x : ℕ) → 2 ^ m ≤ 2 * x + 1 → x < 2 ^ h → m ≤ h
power_within m h x low high = at (cases_lt h m) where
  at : (h < m) ⊎ (m ≤ h) → m ≤ h
  at (inl more) = let e : 2 ^ (h + 1) ≤ 2 ^ m = pow_mono (let k : h + 1 ≤ m = omega arith in k) in
      let d : 2 ^ (h + 1) ≡ 2 ^ h * 2 ^ 1 = pow-add 2 h 1 in omega arith
  at (inr less) = less

-- the zeros at the front of a number of w bits, and its digits behind them
pub record Digits (w x : ℕ) : Type 0 where
  pub digits : ℕ
  pub all : count_leading_zeros 128 x + digits ≡ 128
  pub few : digits ≤ w
  pub below : (h : ℕ) → x < 2 ^ h → digits ≤ h
  pub within : x < 2 ^ digits

pub digits_of : (w x : ℕ) → w ≤ 128 → x < 2 ^ w → Digits w x
digits_of w x h k = at (leading_length 128 x big) where
  big : x < 2 ^ 128
  big = let m : 2 ^ w ≤ 2 ^ 128 = pow_mono h in omega arith

  at : (m : ℕ) × (count_leading_zeros 128 x + m ≡ 128) × (x < 2 ^ m) × (2 ^ m ≤ 2 * x + 1) → Digits w x
  at (m, all, within, low) = record { digits = m; all = all; few = power_within m w x low k; below = λ j high. power_within m j x low high; within = within }

pub zeros_enough : (w x : ℕ) → w ≤ 128 → x < 2 ^ w → 128 - w ≤ count_leading_zeros 128 x
zeros_enough w x h k = let d : Digits w x = digits_of w x h k in omega arith

pub common_there : (w n a b : ℕ) → w ≤ 128 → a < 2 ^ w → b < 2 ^ w → n ≤ w → cleared w n a ≡ cleared w n b
    → n ≤ count_leading_zeros 128 (bit_xor a b) - (128 - w)
common_there w n a b wide below_a below_b h e = let d : Digits w (bit_xor a b) = digits_of w (bit_xor a b) wide (xor_lt w a b below_a below_b) in
    let few : d.digits ≤ w - n = d.below (w - n) below in omega arith where
      blocks : a / 2 ^ (w - n) * 2 ^ (w - n) ≡ b / 2 ^ (w - n) * 2 ^ (w - n)
      blocks = sym (first_bits_of w n a below_a) ∙ e ∙ first_bits_of w n b below_b

      same : a / 2 ^ (w - n) ≡ b / 2 ^ (w - n)
      same = sym (mul-div_cancel (a / 2 ^ (w - n)) (pow_pos (w - n))) ∙ ap (λ k. k / 2 ^ (w - n)) blocks ∙ mul-div_cancel (b / 2 ^ (w - n)) (pow_pos (w - n))

      none : bit_xor a b / 2 ^ (w - n) ≡ 0
      none = xor_shr a b (w - n) ∙ ap (λ k. bit_xor k (b / 2 ^ (w - n))) same ∙ xor_self (b / 2 ^ (w - n))

      below : bit_xor a b < 2 ^ (w - n)
      below = let s : bit_xor a b / 2 ^ (w - n) * 2 ^ (w - n) + bit_xor a b % 2 ^ (w - n) ≡ bit_xor a b = shr_split (bit_xor a b) (w - n) in
          let z : bit_xor a b / 2 ^ (w - n) * 2 ^ (w - n) ≡ 0 = ap (λ k. k * 2 ^ (w - n)) none ∙ zero-mul (2 ^ (w - n)) in
          let r : bit_xor a b % 2 ^ (w - n) < 2 ^ (w - n) = mod_below (bit_xor a b) (2 ^ (w - n)) (pow_pos (w - n)) in omega arith

pub common_back : (w n a b : ℕ) → w ≤ 128 → a < 2 ^ w → b < 2 ^ w → n ≤ w → n ≤ count_leading_zeros 128 (bit_xor a b) - (128 - w)
    → cleared w n a ≡ cleared w n b
common_back w n a b wide below_a below_b h e = first_bits_of w n a below_a ∙ ap (λ k. k * 2 ^ (w - n)) same ∙ sym (first_bits_of w n b below_b) where
  digits : Digits w (bit_xor a b)
  digits = digits_of w (bit_xor a b) wide (xor_lt w a b below_a below_b)

  few : digits.digits ≤ w - n
  few = omega (arith, digits.all, digits.few)

  below : bit_xor a b < 2 ^ (w - n)
  below = let m : 2 ^ digits.digits ≤ 2 ^ (w - n) = pow_mono few in omega (arith, digits.within)

  same : a / 2 ^ (w - n) ≡ b / 2 ^ (w - n)
  same = same_from_xor (a / 2 ^ (w - n)) (b / 2 ^ (w - n)) (sym (xor_shr a b (w - n)) ∙ div-eq_of_lt below)
