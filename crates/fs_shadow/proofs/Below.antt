use Rattle.fs_shadow.proofs.Words.{◌≡◌, ℕ, zero, suc, ◌+◌, ◌<◌, ◌≤◌, Bool, true, false, refl, sym, subst, arith, inl, inr, list_all, range_with_len}
use Rattle.fs_shadow.proofs.Words.{and_from, and_parts, cases_eq, cases_lt, true≢false, same_tests, all_below, implies}

-- A test that passes each number below a bound.

range_from : (test : ℕ → Bool) (a n : ℕ) → list_all test (range_with_len a n) ≡ true → (k : ℕ) → a ≤ k → k < a + n → test k ≡ true
range_from test a zero all k low high = absurd (omega (arith, low, high))
range_from test a (suc n) all k low high = elim (cases_eq a k) [
  | inl here ↦ subst (λ j. test j ≡ true) here (and_parts (test a) (list_all test (range_with_len (a + 1) n)) all).0
  | inr later ↦ range_from test (a + 1) n (and_parts (test a) (list_all test (range_with_len (a + 1) n)) all).1 k (above later) (omega (arith, high))
] where
  above : (a ≡ k → ⊥) → a + 1 ≤ k
  above other = elim (cases_lt a k) [ inl less ↦ omega arith | inr most ↦ absurd (other (omega arith)) ]

range_to : (test : ℕ → Bool) (a n : ℕ) → ((k : ℕ) → a ≤ k → k < a + n → test k ≡ true) → list_all test (range_with_len a n) ≡ true
range_to test a zero each = refl
range_to test a (suc n) each =
    and_from (test a) (list_all test (range_with_len (a + 1) n)) (each a (omega arith) (omega arith))
    (range_to test (a + 1) n (λ k low high. each k (omega arith) (omega arith)))

pub each_below : (bound : ℕ) (test : ℕ → Bool) → all_below bound test ≡ true → (n : ℕ) → n < bound → test n ≡ true
unfolding all_below
each_below bound test all n below = range_from test 0 bound all n (omega arith) (omega arith)

pub below_from : (bound : ℕ) (test : ℕ → Bool) → ((n : ℕ) → n < bound → test n ≡ true) → all_below bound test ≡ true
unfolding all_below
below_from bound test each = range_to test 0 bound (λ k low high. each k (omega arith))

-- what such a test is, where something else decides the same
pub below_is : (r : Bool) (bound : ℕ) (test : ℕ → Bool) → (r ≡ true → (n : ℕ) → n < bound → test n ≡ true)
    → (((n : ℕ) → n < bound → test n ≡ true) → r ≡ true) → r ≡ all_below bound test
below_is r bound test to from = same_tests r (all_below bound test) (λ h. below_from bound test (to h)) (λ h. from (each_below bound test h))

pub implied : (one other : Bool) → (one ≡ true → other ≡ true) → implies one other ≡ true
implied true other h = h refl
implied false other h = refl

pub follows : (one other : Bool) → implies one other ≡ true → one ≡ true → other ≡ true
follows true other h e = h
follows false other h e = absurd (true≢false (sym e))
