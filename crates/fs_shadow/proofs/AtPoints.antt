-- Lists say the same of numbers between which no value stands, so what is so at the values and beside them is so
-- everywhere.
use Rattle.fs_shadow.proofs.Words.{◌≡◌, ℕ, zero, suc, ◌+◌, ◌-◌, ◌/◌, ◌^◌, ◌<◌, ◌≤◌, ◌==◌, min, List, [], ◌∷◌, Bool, true, false, ◌&&◌, ◌||◌, nat_lt}
use Rattle.fs_shadow.proofs.Words.{refl, sym, subst, ◌∙◌, arith, inl, inr, AllByRecursion, list_all, list_any, and_from, and_parts, cases_Bool}
use Rattle.fs_shadow.proofs.Words.{eqb-false, eqb-true, or_cases, or_parts, pow-le-pow_right, and_le_r, compares, has_bit, holds, implies}
use Rattle.fs_shadow.proofs.Words.{numbers_lie_in, are_implied, implied_around, implied_at}
use Rattle.fs_shadow.proofs.Below.{below_is}
use Rattle.std.proofs.lemmas.Bool.Decides.{nat_tests}
use Rattle.fs_ops.specs.{declared.kind.Kind.TheVariants.{Numeric}, Operator.{width_code, width_of}, OperatorList.{IsNormal}}
use Rattle.fs_packet.proofs.Flags.{AreWide, holds_same, sound_is_wide}

-- no pair's value is the number behind n, or n itself
same_pair : (n : ℕ) (pair : ℕ × ℕ) → (pair.1 ≡ n + 1 → ⊥) → (pair.1 + 1 ≡ n + 1 → ⊥) → compares n pair ≡ compares (n + 1) pair
same_pair n pair above at = λ i. (has_bit pair.0 4 && less n pair.1 above at i)
    || ((has_bit pair.0 2 && more n pair.1 above at i) || (has_bit pair.0 1 && equal n pair.1 above at i))
  where
    less : (m v : ℕ) → (v ≡ m + 1 → ⊥) → (v + 1 ≡ m + 1 → ⊥) → nat_lt m v ≡ nat_lt (m + 1) v
    less m v above at = grind (arith, nat_tests)

    more : (m v : ℕ) → (v ≡ m + 1 → ⊥) → (v + 1 ≡ m + 1 → ⊥) → nat_lt v m ≡ nat_lt v (m + 1)
    more m v above at = grind (arith, nat_tests)

    equal : (m v : ℕ) → (v ≡ m + 1 → ⊥) → (v + 1 ≡ m + 1 → ⊥) → (m == v) ≡ (m + 1 == v)
    equal m v above at = grind (arith, nat_tests)

-- the number is a value, or the one behind a value
abbrev pub is_mark : ℕ → ℕ × ℕ → Bool
is_mark n pair = (pair.1 == n) || (pair.1 + 1 == n)

each_same : (n : ℕ) (pairs : List (ℕ × ℕ)) → list_any (is_mark (n + 1)) pairs ≡ false → AllByRecursion (λ x. compares n x ≡ compares (n + 1) x) pairs
each_same n [] none = tt
each_same n (pair ∷ pairs) none =
    let p = or_parts (is_mark (n + 1) pair) (list_any (is_mark (n + 1)) pairs) none in
    let q = or_parts (pair.1 == n + 1) (pair.1 + 1 == n + 1) p.0 in
    (same_pair n pair (eqb-false pair.1 (n + 1) q.0) (eqb-false (pair.1 + 1) (n + 1) q.1), each_same n pairs p.1)

same_list : (n : ℕ) (pairs : List (ℕ × ℕ)) → list_any (is_mark (n + 1)) pairs ≡ false → holds (compares n) pairs ≡ holds (compares (n + 1)) pairs
same_list n pairs none = holds_same (compares n) (compares (n + 1)) pairs (each_same n pairs none)

-- what is so around a value is so at it, and behind it
around : (inner outer : List (ℕ × ℕ)) (v : ℕ) → implied_around inner outer v ≡ true
    → (implied_at inner outer v ≡ true) × (implied_at inner outer (min (v + 1) (2 ^ 64 - 1)) ≡ true)
unfolding implied_around
around inner outer v h =
    let p = and_parts (implied_at inner outer v && implied_at inner outer (v - 1)) (implied_at inner outer (min (v + 1) (2 ^ 64 - 1))) h in
    ((and_parts (implied_at inner outer v) (implied_at inner outer (v - 1)) p.0).0, p.1)

at_mark : (inner outer pairs : List (ℕ × ℕ)) (n : ℕ) → list_all (λ pair. implied_around inner outer pair.1) pairs ≡ true
    → list_any (is_mark n) pairs ≡ true → n < 2 ^ 64 → implied_at inner outer n ≡ true
at_mark inner outer [] n all some below = absurd cc
at_mark inner outer (pair ∷ pairs) n all some below =
    elim (or_cases (is_mark n pair) (list_any (is_mark n) pairs) some) [
      | inl here ↦ elim (or_cases (pair.1 == n) (pair.1 + 1 == n) here) [
        | inl value ↦ subst (λ j. implied_at inner outer j ≡ true) (eqb-true pair.1 n value) near.0
        | inr behind ↦ subst (λ j. implied_at inner outer j ≡ true) (let e = eqb-true (pair.1 + 1) n behind in
            let f : min (pair.1 + 1) (2 ^ 64 - 1) ≡ n = omega (arith, e) in f) near.1
      ]
      | inr later ↦ at_mark inner outer pairs n p.1 later below
    ]
  where
    p : (implied_around inner outer pair.1 ≡ true) × (list_all (λ pair. implied_around inner outer pair.1) pairs ≡ true)
    p = and_parts (implied_around inner outer pair.1) (list_all (λ pair. implied_around inner outer pair.1) pairs) all

    near : (implied_at inner outer pair.1 ≡ true) × (implied_at inner outer (min (pair.1 + 1) (2 ^ 64 - 1)) ≡ true)
    near = around inner outer pair.1 p.0

same_at : (inner outer : List (ℕ × ℕ)) (n : ℕ) → list_any (is_mark (n + 1)) inner ≡ false → list_any (is_mark (n + 1)) outer ≡ false
    → implied_at inner outer n ≡ implied_at inner outer (n + 1)
unfolding implied_at
same_at inner outer n one other = λ i. implies (same_list n inner one i) (same_list n outer other i)

everywhere : (inner outer : List (ℕ × ℕ)) → implied_at inner outer 0 ≡ true → list_all (λ pair. implied_around inner outer pair.1) inner ≡ true
    → list_all (λ pair. implied_around inner outer pair.1) outer ≡ true
    → (n : ℕ) → n < 2 ^ 64 → implied_at inner outer n ≡ true
everywhere inner outer first one other zero below = first
everywhere inner outer first one other (suc n) below = let more : n + 1 ≡ suc n = omega arith in
    subst (λ j. implied_at inner outer j ≡ true) more (at (everywhere inner outer first one other n (omega arith)))
  where
    at : implied_at inner outer n ≡ true → implied_at inner outer (n + 1) ≡ true
    at before = elim (cases_Bool (list_any (is_mark (n + 1)) inner)) [
      | inl there ↦ at_mark inner outer inner (n + 1) one there (omega arith)
      | inr none ↦ elim (cases_Bool (list_any (is_mark (n + 1)) outer)) [
        | inl there ↦ at_mark inner outer outer (n + 1) other there (omega arith)
        | inr neither ↦ sym (same_at inner outer n none neither) ∙ before
      ]
    ]

-- values are numbers of at most eight octets
code_small : (operator : ℕ) → width_of operator ≤ 8
code_small operator = let h : width_code operator ≤ 3 = and_le_r (operator / 2 ^ 4) 3 in let p : 2 ^ width_code operator ≤ 2 ^ 3 =
    pow-le-pow_right (let t : 0 < 2 = omega arith in t) h in omega arith

value_small : (pair : ℕ × ℕ) → pair.1 < 256 ^ width_of pair.0 → pair.1 < 2 ^ 64
value_small pair fits = let p : 256 ^ width_of pair.0 ≤ 256 ^ 8 = pow-le-pow_right (let t : 0 < 256 = omega arith in t) (code_small pair.0) in
    omega (arith, fits)

each_around : (inner outer pairs : List (ℕ × ℕ)) → AreWide pairs → ((n : ℕ) → n < 2 ^ 64 → implied_at inner outer n ≡ true)
    → list_all (λ pair. implied_around inner outer pair.1) pairs ≡ true
unfolding implied_around
each_around inner outer [] wide each = refl
each_around inner outer (pair ∷ pairs) wide each =
    let small : pair.1 < 2 ^ 64 = value_small pair wide.0 in
    and_from (implied_around inner outer pair.1) (list_all (λ pair. implied_around inner outer pair.1) pairs)
    (and_from (implied_at inner outer pair.1 && implied_at inner outer (pair.1 - 1)) (implied_at inner outer (min (pair.1 + 1) (2 ^ 64 - 1)))
    (and_from (implied_at inner outer pair.1) (implied_at inner outer (pair.1 - 1)) (each pair.1 small) (each (pair.1 - 1) (omega arith)))
    (each (min (pair.1 + 1) (2 ^ 64 - 1)) (omega arith)))
    (each_around inner outer pairs wide.1 each)

pub marks_tell : (inner outer : List (ℕ × ℕ)) → IsNormal Numeric inner → IsNormal Numeric outer
    → are_implied inner outer inner outer ≡ numbers_lie_in inner outer
unfolding implied_at
marks_tell inner outer one other =
    below_is (are_implied inner outer inner outer) (2 ^ 64) (λ n. implies (holds (compares n) inner) (holds (compares n) outer)) to from
  where
    to : are_implied inner outer inner outer ≡ true → (n : ℕ) → n < 2 ^ 64 → implied_at inner outer n ≡ true
    to all n below =
        let p = and_parts ((implied_at inner outer 0 && implied_at inner outer (2 ^ 64 - 1))
        && list_all (λ pair. implied_around inner outer pair.1) inner) (list_all (λ pair. implied_around inner outer pair.1) outer) all in
        let q = and_parts (implied_at inner outer 0 && implied_at inner outer (2 ^ 64 - 1)) (list_all (λ pair. implied_around inner outer pair.1) inner) p.0 in
        everywhere inner outer (and_parts (implied_at inner outer 0) (implied_at inner outer (2 ^ 64 - 1)) q.0).0 q.1 p.1 n below

    from : ((n : ℕ) → n < 2 ^ 64 → implied_at inner outer n ≡ true) → are_implied inner outer inner outer ≡ true
    from each =
        and_from ((implied_at inner outer 0 && implied_at inner outer (2 ^ 64 - 1)) && list_all (λ pair. implied_around inner outer pair.1) inner)
        (list_all (λ pair. implied_around inner outer pair.1) outer)
        (and_from (implied_at inner outer 0 && implied_at inner outer (2 ^ 64 - 1)) (list_all (λ pair. implied_around inner outer pair.1) inner)
        (and_from (implied_at inner outer 0) (implied_at inner outer (2 ^ 64 - 1)) (each 0 (omega arith)) (each (2 ^ 64 - 1) (omega arith)))
        (each_around inner outer inner (sound_is_wide inner (Numeric, one)) each))
        (each_around inner outer outer (sound_is_wide outer (Numeric, other)) each)
