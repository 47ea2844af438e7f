-- When a list holds of a number (RFC 8955 section 4.2.1): it is an OR of groups, each an AND of its pairs.
use Rattle.std.specs.{Prelude.{ℕ, Bool, not, ◌&&◌, ◌||◌, ◌==◌, nat_lt, List, [], ◌∷◌, bit_and, if◌then◌else◌}, List.{list_any, list_all}}
use Rattle.fs_ops.specs.Operator.{Kind, Numeric, Bitmask, joins}

abbrev pub onto_group : ℕ × ℕ → List (List (ℕ × ℕ)) → List (List (ℕ × ℕ))
onto_group pair [] = (pair ∷ []) ∷ []
onto_group pair (group ∷ groups) = (pair ∷ group) ∷ groups

-- a pair whose AND bit is set joins the group of the pair before it, any other begins a group
abbrev pub groups_of : List (ℕ × ℕ) → List (List (ℕ × ℕ))
groups_of [] = []
groups_of (pair ∷ []) = (pair ∷ []) ∷ []
groups_of (pair ∷ next ∷ pairs) =
    if joins next.0 then onto_group pair (groups_of (next ∷ pairs)) else (pair ∷ []) ∷ groups_of (next ∷ pairs)

abbrev pub holds : (ℕ × ℕ → Bool) → List (ℕ × ℕ) → Bool
holds test pairs = list_any (λ group. list_all test group) (groups_of pairs)

abbrev pub has_bit : ℕ → ℕ → Bool
has_bit operator bit = not (bit_and operator bit == 0)

-- numeric: less is 4, greater 2, equal 1, of the data against the value (RFC 8955 section 4.2.1.1)
abbrev pub compares : ℕ → ℕ × ℕ → Bool
compares datum pair =
    (has_bit pair.0 4 && nat_lt datum pair.1) || ((has_bit pair.0 2 && nat_lt pair.1 datum) || (has_bit pair.0 1 && (datum == pair.1)))

-- bitmask: NOT is 2, match 1 (RFC 8955 section 4.2.1.2)
abbrev pub matches_bits : ℕ → ℕ × ℕ → Bool
matches_bits datum pair =
    if has_bit pair.0 1 then bit_and datum pair.1 == pair.1 else not (bit_and datum pair.1 == 0)

abbrev pub masks : ℕ → ℕ × ℕ → Bool
masks datum pair = if has_bit pair.0 2 then not (matches_bits datum pair) else matches_bits datum pair

abbrev pub test_of : Kind → ℕ → ℕ × ℕ → Bool
test_of Numeric datum = compares datum
test_of Bitmask datum = masks datum
