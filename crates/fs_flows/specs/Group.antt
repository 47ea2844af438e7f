-- Flow routes kept with their validities.
use Rattle.std.specs.Prelude.{◌≡◌, ℕ, ◌+◌, ◌==◌, ◌&&◌, not, option_map, Bool, true, false, Option, Some, None, List, [], ◌∷◌, map, filter}
use Rattle.std.specs.Prelude.{if◌then◌else◌}
use Rattle.std.specs.{List.{list_any, AllByRecursion}, Ordering.{match_ordering}, declared.cmp.Ordering.TheVariants.{Less}}
use Rattle.fs_base.specs.declared.{config.Config.{Config}, prefix.{Family.{Family}, Prefix.{Prefix}}}
use Rattle.fs_nlri.specs.{Parts.{Ruled}, Rule.{IsRule, destination_prefix}}
use Rattle.fs_unicast.specs.{Preference.{peer_path}, Unicast.{Route}}
use Rattle.fs_validate.specs.Validity.{judged, validity, validity_to}
use Rattle.fs_validate.specs.declared.{basis.Basis.{Basis}, route.FlowRoute.{FlowRoute}, validity.Validity.{Validity}}
use Rattle.fs_flows.specs.{Changes.{Noted, is_noted}, Kept.{Kept}, Table.{key_cmp, is_key, has_related, is_of_family, is_valid, beats}}

abbrev pub routes_of : List Kept → List FlowRoute
routes_of kept = map (λ k. k.route) kept

-- the validity is that of the route
abbrev pub IsRight : List Route → Config → Kept → Type 0
IsRight unicast config k = k.validity ≡ validity unicast config k.route

-- each validity is that of its route
abbrev pub AreRight : List Route → Config → List Kept → Type 0
AreRight unicast config kept = AllByRecursion (IsRight unicast config) kept

-- each is before those after it
abbrev pub AreSorted : List FlowRoute → Type 0
AreSorted [] = Unit {0}
AreSorted (r ∷ rs) = AllByRecursion (λ s. key_cmp r.rule r.peer s ≡ Less) rs × AreSorted rs

pub record Keeps (config : Config) (unicast : List Route) (kept : List Kept) : Type 0 where
  pub right : AreRight unicast config kept
  pub sorted : AreSorted (routes_of kept)

-- put_route, of routes with their validities
abbrev pub put_kept : Kept → List Kept → List Kept
put_kept k [] = k ∷ []
put_kept k (x ∷ xs) =
    match_ordering (key_cmp k.route.rule k.route.peer x.route) (k ∷ x ∷ xs) (k ∷ xs) (x ∷ put_kept k xs)

-- how many stand before a key
abbrev pub place_in : Ruled → ℕ → List Kept → ℕ
place_in rule peer [] = 0
place_in rule peer (x ∷ xs) = match_ordering (key_cmp rule peer x.route) 0 0 (1 + place_in rule peer xs)

abbrev pub is_related_kept : Prefix → Kept → Bool
is_related_kept prefix k = has_related prefix (destination_prefix k.route.rule)

abbrev pub retested : List Route → Config → Kept → Kept
retested unicast config k = record { route = k.route; validity = validity unicast config k.route }

-- judged by what its destination's validities rest on
abbrev pub validity_by : Config → Basis → Kept → Validity
validity_by config basis k = judged config k.route (option_map peer_path basis.best) basis.others

abbrev pub rejudged : Config → Basis → Kept → Kept
rejudged config basis k = record { route = k.route; validity = validity_by config basis k }

abbrev pub IsJudged : Config → Basis → Kept → Type 0
IsJudged config basis k = k.validity ≡ validity_by config basis k

abbrev pub AreJudged : Config → Basis → List Kept → Type 0
AreJudged config basis kept = AllByRecursion (IsJudged config basis) kept

-- validated anew as a route to the destination
abbrev pub retested_to : List Route → Config → Prefix → Kept → Kept
retested_to unicast config destination k =
    record { route = k.route; validity = validity_to unicast config k.route (Some destination) }

-- each validity is that of its route to the destination
abbrev pub AreRightTo : List Route → Config → Prefix → List Kept → Type 0
AreRightTo unicast config destination kept =
    AllByRecursion (λ k. k.validity ≡ validity_to unicast config k.route (Some destination)) kept

-- where it is related to the prefix, the validity is that of the route
abbrev pub IsRightAt : Prefix → List Route → Config → Kept → Type 0
IsRightAt prefix unicast config k = is_related_kept prefix k ≡ true → IsRight unicast config k

-- where its rule isn't noted, likewise
abbrev pub IsMarked : Noted → Prefix → List Route → Config → Kept → Type 0
IsMarked noted prefix unicast config k =
    IsRule k.route.rule → is_noted noted k.route.rule ≡ false → IsRightAt prefix unicast config k

-- validated anew where it is related to the prefix
abbrev pub mended : Prefix → List Route → Config → Kept → Kept
mended prefix unicast config k = if is_related_kept prefix k then retested unicast config k else k

-- each is of a rule in normal form
abbrev pub HaveRules : List Kept → Type 0
HaveRules kept = AllByRecursion (λ k. IsRule k.route.rule) kept

-- a route of another peer
abbrev pub is_of_other : ℕ → Kept → Bool
is_of_other peer k = not (k.route.peer == peer)

-- a route of another key
abbrev pub is_other_key : Ruled → ℕ → Kept → Bool
is_other_key rule peer k = not (is_key rule peer k.route)

abbrev pub has_key : Ruled → ℕ → List Kept → Bool
has_key rule peer kept = list_any (λ k. is_key rule peer k.route) kept

-- those of a family
abbrev pub of_family : Family → List Kept → List Kept
of_family family kept = filter (λ k. is_of_family family k.route) kept

-- what the validities tell of the most preferred valid route of a rule
abbrev pub is_beaten : List Kept → Kept → Bool
is_beaten kept k = list_any (λ s. is_valid s.validity && beats s.route k.route) kept

abbrev pub is_chosen : Family → List Kept → Kept → Bool
is_chosen family kept k = is_of_family family k.route && (is_valid k.validity && not (is_beaten kept k))

abbrev pub has_key_at : Ruled → ℕ → Option Kept → Bool
has_key_at rule peer None = false
has_key_at rule peer (Some k) = is_key rule peer k.route

-- the admitted rules of a family, by the validities
abbrev pub chosen : Family → List Kept → List Kept
chosen family kept = filter (is_chosen family kept) kept
