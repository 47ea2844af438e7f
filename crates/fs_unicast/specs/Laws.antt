-- What the best of some routes is, said without the loop that finds it.
use Rattle.std.specs.{Prelude.{ℕ, ◌≡◌, false, Option, List, [], MatchOption}, List.{AllByRecursion, Contains}}
use Rattle.fs_base.specs.declared.path.Path.{Path}
use Rattle.fs_unicast.specs.Preference.{preferred}

-- it is one of the routes, and none of them is preferred to it
pub record IsMostPreferred (routes : List (ℕ × Path)) (best : ℕ × Path) : Type 0 where
  pub there : Contains routes best
  pub none_before : AllByRecursion (λ r. preferred r best ≡ false) routes

-- the best of some routes, and None of no route alone
abbrev pub IsBest : List (ℕ × Path) → Option (ℕ × Path) → Type 0
IsBest routes found = MatchOption found (routes ≡ []) (IsMostPreferred routes)
