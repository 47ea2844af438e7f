-- What ranges that begin one after the other leave out of the numbers up to 2^64 - 1.
use Rattle.std.specs.Prelude.{ℕ, ◌+◌, ◌-◌, ◌^◌, max, nat_lt, List, [], ◌∷◌, ◌++◌, if◌then◌else◌}

-- the numbers from the one on that are below the other, as a range if there are any
abbrev pub gap : (from end : ℕ) → List (ℕ × ℕ)
gap from end = if nat_lt from end then (from, end - 1) ∷ [] else []

-- the numbers from there on that are in none of the ranges
abbrev pub gaps_from : ℕ → List (ℕ × ℕ) → List (ℕ × ℕ)
gaps_from from [] = gap from (2 ^ 64)
gaps_from from (range ∷ ranges) = gap from range.0 ++ gaps_from (max from (range.1 + 1)) ranges
