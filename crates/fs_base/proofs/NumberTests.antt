use Rattle.fs_base.proofs.Words.{nat_tests, ◌≡◌, ◌==◌, ℕ, true, arith, false, ◌<◌, ◌≤◌, ◌+◌, ◌*◌, nat_le, add-mul, mul-le-mul_right}

-- What tests of numbers answer, where it is known which number is the greater; and where a row of a table ends.

pub eq_itself : (n : ℕ) → (n == n) ≡ true
eq_itself n = grind (arith, nat_tests)

pub equal_of_eq : (a b : ℕ) → (a == b) ≡ true → a ≡ b
equal_of_eq a b e = grind (arith, nat_tests, e)

pub le_false : (a b : ℕ) → b < a → nat_le a b ≡ false
le_false a b h = let s = h in grind (arith, nat_tests)

pub le_true : (a b : ℕ) → a ≤ b → nat_le a b ≡ true
le_true a b h = let s = h in grind (arith, nat_tests)

pub next_row : (a b size : ℕ) → a < b → a * size + size ≤ b * size
next_row a b size h =
    let row : (a + 1) * size ≡ a * size + 1 * size = add-mul a 1 size in
    let more : (a + 1) * size ≤ b * size = mul-le-mul_right size (omega arith) in
    omega arith

pub not_zero : (n : ℕ) → 0 < n → (n == 0) ≡ false
not_zero n some = grind (arith, nat_tests)
