use Rattle.fs_text.proofs.Words.{◌≡◌, ℕ, ◌+◌, ◌<◌, ◌≤◌, ◌==◌, zero, suc, List, Bool, true, false, if◌then◌else◌, bit_and, refl, sym, subst, arith}
use Rattle.fs_text.proofs.Words.{bytes_eq, and_le_r, eqb-true, nat_tests, Kind, Numeric, Bitmask, ends, meant_bits, plain_of, joined_bit}

-- An operator in normal form is the sum of its bits.

abbrev ended_bit : ℕ → ℕ
ended_bit operator = if ends operator then 128 else 0

abbrev is_sum : Kind → ℕ → Bool
is_sum kind operator =
    if bit_and operator (meant_bits kind) == operator
    then operator == plain_of kind operator + joined_bit operator + ended_bit operator
    else true

-- what a test shows of each number below n
abbrev pub all_below : (ℕ → Bool) → ℕ → Bool
all_below p zero = true
all_below p (suc n) = if p n then all_below p n else false

pub below : (p : ℕ → Bool) (n k : ℕ) → all_below p n ≡ true → k < n → p k ≡ true
below p zero k all h = absurd (omega arith)
below p (suc n) k all h = by (below p n k) (p n) refl all (k == n) refl
  where
    by : (all_below p n ≡ true → k < n → p k ≡ true) → (b : Bool) → p n ≡ b → (if b then all_below p n else false) ≡ true → (c : Bool) → (k == n) ≡ c
        → p k ≡ true
    by more false e all c same = absurd cc
    by more true e all true same = subst (λ (j : ℕ). p j ≡ true) (sym (eqb-true k n same)) e
    by more true e all false same = more all (grind (arith, nat_tests, h, same))

-- the number below n whose text this is
abbrev pub number_with : (ℕ → List ℕ) → ℕ → List ℕ → ℕ
number_with f zero text = 0
number_with f (suc n) text = if bytes_eq text (f n) then n else number_with f n text

sums : (kind : Kind) → all_below (is_sum kind) 256 ≡ true
sums Numeric = refl
sums Bitmask = refl

small : (kind : Kind) (operator : ℕ) → bit_and operator (meant_bits kind) ≡ operator → operator < 256
small Numeric operator e = let le : bit_and operator 247 ≤ 247 = and_le_r operator 247 in omega arith
small Bitmask operator e = let le : bit_and operator 243 ≤ 243 = and_le_r operator 243 in omega arith

pub made : (kind : Kind) (operator : ℕ) → bit_and operator (meant_bits kind) ≡ operator
    → operator ≡ plain_of kind operator + joined_bit operator + (if ends operator then 128 else 0)
made kind operator e = by (bit_and operator (meant_bits kind) == operator) refl (below (is_sum kind) 256 operator (sums kind) (small kind operator e))
  where
    by : (b : Bool) → (bit_and operator (meant_bits kind) == operator) ≡ b
        → (if b then (operator == plain_of kind operator + joined_bit operator + ended_bit operator) else true) ≡ true
        → operator ≡ plain_of kind operator + joined_bit operator + ended_bit operator
    by true same h = eqb-true operator (plain_of kind operator + joined_bit operator + ended_bit operator) h
    by false same h = absurd (grind (arith, nat_tests, e, same))
