-- Where a search among numbers that rise has come to.
use Rattle.std.specs.Prelude.{ℕ, ◌<◌, ◌≤◌, List, length, get_or}

-- those before one place are below the number, and those from the other on are not
pub record IsBetween (xs : List ℕ) (number from to : ℕ) : Type 0 where
  pub ordered : from ≤ to
  pub within : to ≤ length xs
  pub before : (b : ℕ) → b < from → get_or xs b 0 < number
  pub behind : (b : ℕ) → to ≤ b → b < length xs → number ≤ get_or xs b 0

-- the place of the first that isn't below the number among the first so many, or how many these are
pub record IsPlaceOf (xs : List ℕ) (number end place : ℕ) : Type 0 where
  pub within : place ≤ end
  pub below : (b : ℕ) → b < place → get_or xs b 0 < number
  pub from : (b : ℕ) → place ≤ b → b < end → number ≤ get_or xs b 0
