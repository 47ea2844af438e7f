-- Flow routes of one family, grouped by destination: the entries of the map, and the routes without a destination.
use Rattle.std.specs.Prelude.{◌≡◌, false, MatchOption, ℕ, ◌≤◌, ◌<◌, ◌^◌, Bool, Option, Some, None, List, [], ◌∷◌, ◌++◌, length, filter, if◌then◌else◌}
use Rattle.std.specs.{BTreeMap.{is_at}, List.{AllByRecursion, Sorted.{IsStrictlySortedBy}}, Map.{keys_of, lookup}, Ordering.{match_ordering, is_eq}}
use Rattle.fs_base.specs.{declared.prefix.{Family.{Family}, Prefix.{Prefix}}, Prefix.{prefix_cmp}}
use Rattle.fs_nlri.specs.{Parts.{Ruled}, Rule.{destination_prefix}}
use Rattle.fs_flows.specs.{Kept.{Kept}, Table.{IsRuleOf}, Group.{AreSorted, routes_of, put_kept, has_key}}

abbrev pub Entry : Type 0
Entry = Prefix × List Kept

-- all routes in order: one group after the other, and last those without a destination
abbrev pub kept_in : List Entry → List Kept → List Kept
kept_in [] rest = rest
kept_in (e ∷ es) rest = e.1 ++ kept_in es rest

abbrev pub IsTo : Option Prefix → Kept → Type 0
IsTo destination k = destination_prefix k.route.rule ≡ destination

-- each route stands in the group of its destination
abbrev pub ArePlaced : List Entry → Type 0
ArePlaced groups = AllByRecursion (λ e. AllByRecursion (IsTo (Some e.0)) e.1) groups

-- the keys are in the order of prefixes
abbrev pub AreInOrder : List Entry → Type 0
AreInOrder groups = IsStrictlySortedBy prefix_cmp (keys_of groups)

-- no destination is shorter
abbrev pub AreNoShorter : ℕ → List Entry → Type 0
AreNoShorter shortest groups = AllByRecursion (λ q. shortest ≤ q.length) (keys_of groups)

pub record IsGrouped (groups : List Entry) (rest : List Kept) (bound : ℕ) : Type 0 where
  pub ordered : AreInOrder groups
  pub placed : ArePlaced groups
  pub bare : AllByRecursion (IsTo None) rest
  pub most : length (kept_in groups rest) ≤ bound
  pub small : bound < 2 ^ 64

abbrev pub IsSound : Family → Kept → Type 0
IsSound f k = IsRuleOf f k.route

-- each group is in order
abbrev pub HasSortedGroups : List Entry → Type 0
HasSortedGroups groups = AllByRecursion (λ e. AreSorted (routes_of e.1)) groups

-- with the route in the group of the destination
abbrev pub put_entry : Prefix → Kept → List Entry → List Entry
put_entry destination k [] = (destination, k ∷ []) ∷ []
put_entry destination k (e ∷ es) =
    match_ordering (prefix_cmp destination e.0)
    ((destination, k ∷ []) ∷ e ∷ es)
    ((e.0, put_kept k e.1) ∷ es) (e ∷ put_entry destination k es)

-- a group stands in the map only with a route
abbrev pub with_group : Prefix → List Kept → List Entry → List Entry
with_group destination [] es = es
with_group destination (k ∷ ks) es = (destination, k ∷ ks) ∷ es

-- of the group at the destination what passes
abbrev pub keep_at : Prefix → (Kept → Bool) → List Entry → List Entry
keep_at destination keeps [] = []
keep_at destination keeps (e ∷ es) =
    if is_eq (prefix_cmp destination e.0) then with_group e.0 (filter keeps e.1) es
    else e ∷ keep_at destination keeps es

-- of each group what passes
abbrev pub keep_each : (Kept → Bool) → List Entry → List Entry
keep_each keeps [] = []
keep_each keeps (e ∷ es) = with_group e.0 (filter keeps e.1) (keep_each keeps es)

-- whether the key has a route in the group at the destination
abbrev pub IsHeldAt : Prefix → Ruled → ℕ → List Entry → Bool → Type 0
IsHeldAt destination rule peer groups held =
    MatchOption (lookup (is_at (prefix_cmp destination)) groups) (held ≡ false)
    (λ group. held ≡ has_key rule peer group)
