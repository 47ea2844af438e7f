-- What is told of one group after the other.
use Rattle.std.specs.{Prelude.{◌≡◌, ◌<◌, ◌^◌, ℕ, Option, map, filter, length, option_map, slice_get, List, [], ◌∷◌, ◌++◌}, List.{AllByRecursion}}
use Rattle.fs_base.specs.declared.prefix.{Family.{Family}, Prefix.{Prefix}}
use Rattle.fs_validate.specs.declared.route.FlowRoute.{FlowRoute}
use Rattle.fs_flows.specs.{Kept.{Kept}, Changes.{is_to}, Group.{AreSorted, chosen, routes_of}, Groups.{Entry, HasSortedGroups, kept_in}}
use Rattle.fs_flows.specs.{Table.{Held, IsAdmitted, IsRuleOf, admitted}, Lending.{chosen_in, group_at}}
use Rattle.fs_rules.specs.{Lists.{listing, judgement, judgements}, Lent.{AreRising, Judged, Listed, held_flows}}

abbrev pub shown_in : {T : Type 0} → (FlowRoute → T) → Family → List Entry → List Kept → List T
shown_in shows family groups rest = map (λ k. shows k.route) (chosen_in family groups rest)

abbrev pub judgements_in : List Entry → List Kept → List Judged
judgements_in groups rest = judgements (kept_in groups rest)

abbrev pub nth_listing_in : Family → List Entry → List Kept → ℕ → Option Listed
nth_listing_in family groups rest n = option_map listing (slice_get (chosen_in family groups rest) n)

abbrev pub nth_judgement_in : List Entry → List Kept → ℕ → Option Judged
nth_judgement_in groups rest n = option_map judgement (slice_get (kept_in groups rest) n)

-- what the groups of a family tell of the table
pub record AreTold (family : Family) (held : Held) (groups : List Entry) (rest : List Kept) : Type 0 where
  pub sorted : HasSortedGroups groups
  pub bare : AreSorted (routes_of rest)
  pub few : length (chosen_in family groups rest) < 2 ^ 64
  pub admits : routes_of (chosen_in family groups rest) ≡ admitted family held
  pub to : (d : Option Prefix)
      → routes_of (chosen family (group_at d groups rest)) ≡ filter (λ r. is_to family d r.rule) (admitted family held)
  pub judges : judgements_in groups rest ≡ held_flows family held
  pub list : (f : Family) → IsAdmitted f held (admitted f held)
  pub rules : (f : Family) → AllByRecursion (IsRuleOf f) (admitted f held)
  pub rising : AreRising (held_flows family held)

-- chosen in one block after the other
abbrev pub chosen_flat : Family → List (List Kept) → List Kept
chosen_flat family [] = []
chosen_flat family (b ∷ bs) = chosen family b ++ chosen_flat family bs
