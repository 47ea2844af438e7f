-- Sets of numbers as lists of ranges, each from a first number to a last.
use Rattle.std.specs.{Prelude.{ℕ, ◌+◌, ◌-◌, ◌^◌, ◌<◌, ◌≤◌, min, Bool, ◌&&◌, nat_le, nat_lt, List, [], ◌∷◌, Option, Some, None, if◌then◌else◌}, List.{list_any}}

abbrev pub is_in : ℕ → ℕ × ℕ → Bool
is_in n range = nat_le range.0 n && nat_le n range.1

abbrev pub contains : List (ℕ × ℕ) → ℕ → Bool
contains ranges n = list_any (is_in n) ranges

-- the range lies in the other
abbrev pub encloses : ℕ × ℕ → ℕ × ℕ → Bool
encloses inner outer = nat_le outer.0 inner.0 && nat_le inner.1 outer.1

-- the numbers of a range that are below 2^32; where there are none, a first above the last
abbrev pub clipped : (first last : ℕ) → ℕ × ℕ
clipped first last = if nat_lt first (2 ^ 32) then (first, min last (2 ^ 32 - 1)) else (1, 0)

-- the numbers below 2^32, where they are no more than one range
abbrev pub field_range : List (ℕ × ℕ) → Option (ℕ × ℕ)
field_range [] = Some (1, 0)
field_range (range ∷ []) = Some (clipped range.0 range.1)
field_range (range ∷ next ∷ ranges) = None

-- from a first number to a last one that isn't below it, up to 2^64 - 1
abbrev pub IsRange : ℕ × ℕ → Type 0
IsRange range = (range.0 ≤ range.1) × (range.1 < 2 ^ 64)

-- ranges that begin at the number or above it, in order, with a gap before each next
abbrev pub AreApart : ℕ → List (ℕ × ℕ) → Type 0
AreApart low [] = Unit {0}
AreApart low (range ∷ ranges) = (low ≤ range.0) × IsRange range × AreApart (range.1 + 2) ranges
