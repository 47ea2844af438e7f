-- Which numbers a list holds of, and lists of simple forms.
use Rattle.std.specs.Prelude.{◌≡◌, ℕ, ◌+◌, ◌^◌, ◌<◌, Bool, true, not, ◌&&◌, nat_le, nat_lt, List, [], ◌∷◌}
use Rattle.fs_ops.specs.Evaluation.{compares, has_bit, holds}
use Rattle.fs_ranges.specs.Spans.{contains, is_in}

-- no number of a field is above these
abbrev pub has_field : (ranges : List (ℕ × ℕ)) → ℕ → Bool
has_field ranges n = nat_lt n (2 ^ 32) && contains ranges n

abbrev pub AreNumbersOf : (pairs ranges : List (ℕ × ℕ)) → Type 0
AreNumbersOf pairs ranges = (n : ℕ) → n < 2 ^ 64 → contains ranges n ≡ holds (compares n) pairs

-- the operator says that a number is equal to its value, and no more
abbrev pub is_equality : ℕ → Bool
is_equality operator = not (has_bit operator 4) && (not (has_bit operator 2) && has_bit operator 1)

-- that it isn't below its value, and no more
abbrev pub is_least : ℕ → Bool
is_least operator = not (has_bit operator 4) && (has_bit operator 2 && has_bit operator 1)

-- with the operator before it, that it isn't above its value, and no more
abbrev pub is_joined_most : ℕ → Bool
is_joined_most operator = has_bit operator 64 && (has_bit operator 4 && (not (has_bit operator 2) && has_bit operator 1))

-- the list holds of the numbers of one range
abbrev pub IsOnlyRange : List (ℕ × ℕ) → ℕ × ℕ → Type 0
IsOnlyRange pairs range = (n : ℕ) → is_in n range ≡ holds (compares n) pairs

-- that it is equal to its value, in a group of its own
abbrev pub is_single : ℕ → Bool
is_single operator = is_equality operator && not (has_bit operator 64)

-- the pairs are such numbers from the lowest on, each with a gap before the next
abbrev pub are_singles : ℕ → List (ℕ × ℕ) → Bool
are_singles low [] = true
are_singles low (pair ∷ pairs) = is_single pair.0 && (nat_le low pair.1 && are_singles (pair.1 + 2) pairs)

abbrev pub lone : ℕ × ℕ → ℕ × ℕ
lone pair = (pair.1, pair.1)
