-- What the validity of each route to one destination rests on.
use Rattle.std.specs.Prelude.{ℕ, ◌≡◌, Bool, Option, List}
use Rattle.fs_base.specs.declared.{config.Config.{Config}, path.Path.{Path}, prefix.Prefix.{Prefix}}
use Rattle.fs_unicast.specs.{Unicast.{Route}, Search.{best_match_of, others_under}}
use Rattle.fs_validate.specs.Validity.{neighbour_of_best}

-- the best match of the destination, and whether a route strictly under it has another neighbouring AS than that
pub record IsBasis (held : List Route) (config : Config) (destination : Prefix) (best : Option (ℕ × Path))
    (others : Bool) : Type 0 where
  pub best_is : best ≡ best_match_of held destination
  pub others_is : others ≡ others_under held destination config.local_as
      (neighbour_of_best config (best_match_of held destination))
