-- The groups of a family, as they are lent to be read.
use Rattle.std.specs.{Prelude.{◌≡◌, ◌<◌, ◌^◌, Option, Some, None, filter, length, List, [], ◌∷◌, ◌++◌, ◌+◌}, BTreeMap.{is_at}, Map.{lookup}, Option.{unwrap_or}}
use Rattle.fs_base.specs.{Prefix.{prefix_cmp}, declared.prefix.{Family.{Family}, Prefix.{Prefix}}}
use Rattle.fs_flows.specs.{Kept.{Kept}, Changes.{is_to}, Group.{AreSorted, chosen, routes_of}, Groups.{Entry, HasSortedGroups, kept_in}}

-- chosen in one group after the other
abbrev pub chosen_in : Family → List Entry → List Kept → List Kept
chosen_in family [] rest = chosen family rest
chosen_in family (e ∷ es) rest = chosen family e.1 ++ chosen_in family es rest

-- the routes with this destination, or without one
abbrev pub group_at : Option Prefix → List Entry → List Kept → List Kept
group_at None groups rest = rest
group_at (Some destination) groups rest = unwrap_or (lookup (is_at (prefix_cmp destination)) groups) []

-- the groups of a family: what is chosen among them, and all of their routes
pub record AreLent (family : Family) (admits held : List Kept) (groups : List Entry) (rest : List Kept) : Type 0 where
  pub sorted : HasSortedGroups groups
  pub bare : AreSorted (routes_of rest)
  pub few : length (chosen_in family groups rest) < 2 ^ 64
  pub whole : chosen_in family groups rest ≡ admits
  pub to : (d : Option Prefix) → chosen family (group_at d groups rest) ≡ filter (λ k. is_to family d k.route.rule) admits
  pub routes : kept_in groups rest ≡ held
