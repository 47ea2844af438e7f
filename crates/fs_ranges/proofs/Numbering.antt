use Rattle.fs_ranges.proofs.Words.{◌≡◌, ◌==◌, ℕ, suc, ◌+◌, ◌<◌, List, [], ◌∷◌, ◌++◌, map, length, get_or, drop, drop-cons, Bool, true, false}
use Rattle.fs_ranges.proofs.Words.{true≢false, not, ◌&&◌, ◌||◌, nat_le, nat_lt, if◌then◌else◌, refl, sym, ap, ◌∙◌, arith, append_assoc, All, list_any}
use Rattle.fs_ranges.proofs.Words.{list_all, leb-true, nat_tests, All-head, All-tail, and_first, and_second, and_true, false_of_not, compares}
use Rattle.fs_ranges.proofs.Words.{groups_of, has_bit, holds, onto_group, are_singles, is_equality, is_single, lone, AreApart, IsRange, contains}
use Rattle.fs_ranges.proofs.Words.{is_in}

-- Lists of single numbers.

-- which number a pair holds of, by the bits of its operator
equal_bits : (less greater equal : Bool) (v n : ℕ) → (not less && (not greater && equal)) ≡ true
    → ((less && nat_lt n v) || ((greater && nat_lt v n) || (equal && (n == v)))) ≡ is_in n (v, v)
equal_bits true greater equal v n h = absurd (true≢false (sym h))
equal_bits false true equal v n h = absurd (true≢false (sym h))
equal_bits false false false v n h = absurd (true≢false (sym h))
equal_bits false false true v n h = grind (arith, nat_tests)

compares_equal : (pair : ℕ × ℕ) (n : ℕ) → is_equality pair.0 ≡ true → compares n pair ≡ is_in n (lone pair)
compares_equal pair n h = equal_bits (has_bit pair.0 4) (has_bit pair.0 2) (has_bit pair.0 1) pair.1 n h

single_parts : (low : ℕ) (pair : ℕ × ℕ) (pairs : List (ℕ × ℕ)) → are_singles low (pair ∷ pairs) ≡ true
    → (is_single pair.0 ≡ true) × (nat_le low pair.1 ≡ true) × (are_singles (pair.1 + 2) pairs ≡ true)
single_parts low pair pairs h = (
  and_first (is_single pair.0) (nat_le low pair.1 && are_singles (pair.1 + 2) pairs) h,
  and_first (nat_le low pair.1) (are_singles (pair.1 + 2) pairs) rest,
  and_second (nat_le low pair.1) (are_singles (pair.1 + 2) pairs) rest,
) where
  rest : (nat_le low pair.1 && are_singles (pair.1 + 2) pairs) ≡ true
  rest = and_second (is_single pair.0) (nat_le low pair.1 && are_singles (pair.1 + 2) pairs) h

single_equal : (pair : ℕ × ℕ) (n : ℕ) → is_single pair.0 ≡ true → compares n pair ≡ is_in n (lone pair)
single_equal pair n h = compares_equal pair n (and_first (is_equality pair.0) (not (has_bit pair.0 64)) h)

pub singles_apart : (low : ℕ) (pairs : List (ℕ × ℕ)) → are_singles low pairs ≡ true → All IsRange (map lone pairs) → AreApart low (map lone pairs)
singles_apart low [] h all = tt
singles_apart low (pair ∷ pairs) h all = let parts = single_parts low pair pairs h in (
  leb-true low pair.1 parts.1,
  All-head IsRange (lone pair) (map lone pairs) all,
  singles_apart (pair.1 + 2) pairs parts.2 (All-tail IsRange (lone pair) (map lone pairs) all),
)

pub singles_same : (low : ℕ) (pairs : List (ℕ × ℕ)) (n : ℕ) → are_singles low pairs ≡ true → contains (map lone pairs) n ≡ holds (compares n) pairs
singles_same low [] n h = refl
singles_same low (pair ∷ []) n h = let parts = single_parts low pair [] h in
    sym (ap (λ (b : Bool). (b && true) || false) (single_equal pair n parts.0) ∙ both_then (is_in n (lone pair))) where
      both_then : (a : Bool) → ((a && true) || false) ≡ (a || false)
      both_then true = refl
      both_then false = refl
singles_same low (pair ∷ next ∷ pairs) n h =
    sym (ap (λ (b : Bool). list_any (λ group. list_all (compares n) group) (if b then onto else alone)) apart
    ∙ (λ i. first i || sym (singles_same (pair.1 + 2) (next ∷ pairs) n parts.2) i)) where
      parts : (is_single pair.0 ≡ true) × (nat_le low pair.1 ≡ true) × (are_singles (pair.1 + 2) (next ∷ pairs) ≡ true)
      parts = single_parts low pair (next ∷ pairs) h

      onto : List (List (ℕ × ℕ))
      onto = onto_group pair (groups_of (next ∷ pairs))

      alone : List (List (ℕ × ℕ))
      alone = (pair ∷ []) ∷ groups_of (next ∷ pairs)

      apart : has_bit next.0 64 ≡ false
      apart = false_of_not (has_bit next.0 64) (and_second (is_equality next.0) (not (has_bit next.0 64)) (single_parts (pair.1 + 2) next pairs parts.2).0)

      first : (compares n pair && true) ≡ is_in n (lone pair)
      first = and_true (compares n pair) ∙ single_equal pair n parts.0

-- the loop over the numbers
pub lone_next : (pairs ranges : List (ℕ × ℕ)) (i : ℕ) (d : ℕ × ℕ) → i < length pairs → ranges ++ map lone (drop i pairs) ≡ map lone pairs
    → (ranges ++ lone (get_or pairs i d) ∷ []) ++ map lone (drop (i + 1) pairs) ≡ map lone pairs
lone_next pairs ranges i d h e = append_assoc ranges (lone (get_or pairs i d) ∷ []) (map lone (drop (i + 1) pairs))
    ∙ ap (λ zs. ranges ++ map lone zs) (sym (drop-cons pairs i d h ∙ ap (λ n. get_or pairs i d ∷ drop n pairs) next)) ∙ e where
      next : suc i ≡ i + 1
      next = omega arith
