-- Turns: places that part the routes of other neighbouring ASes.
use Rattle.std.specs.Prelude.{find, option_map}
use Rattle.std.specs.Prelude.{ℕ, ◌≡◌, ◌==◌, Bool, not, ◌&&◌, ◌||◌, true, false, Option, Some, None, List, [], ◌∷◌, if◌then◌else◌}
use Rattle.std.specs.{Borrow.{Bor}, BTreeMap.{is_at}}
use Rattle.std.specs.List.{AllByRecursion, list_any, list_all, Sorted.{IsStrictlySortedBy}}
use Rattle.std.specs.{Map.{keys_of}, Option.{option_eq}, Ordering.{is_eq, is_le, is_lt}, Set.{remove_key}}
use Rattle.fs_base.specs.declared.path.Path.{Path}
use Rattle.fs_unicast.specs.{declared.unicast.Place.{Place}, declared.beside.Beside.{Beside}, Neighbour.{neighbour}, Unicast.{Route, place_cmp}}

-- the neighbouring AS that a route's path names, or None where no segment counts
abbrev pub neighbour_of : Route → Option ℕ
neighbour_of r = neighbour r.1.segments

abbrev pub is_same : Option ℕ → Option ℕ → Bool
is_same a b = option_eq (λ m n. m == n) a b

-- of routes, those before a place, after it, and from it on
abbrev pub is_before : Place → Route → Bool
is_before z r = is_lt (place_cmp r.0 z)

abbrev pub is_after : Place → Route → Bool
is_after z r = is_lt (place_cmp z r.0)

abbrev pub is_at_or_after : Place → Route → Bool
is_at_or_after z r = is_le (place_cmp z r.0)

-- from low on, and before high
abbrev pub is_within : Place → Place → Place → Bool
is_within low high q = is_le (place_cmp low q) && is_lt (place_cmp q high)

-- t lies after x, and not after y
abbrev pub lies_between : Place → Place → Place → Bool
lies_between x y t = is_lt (place_cmp x t) && is_le (place_cmp t y)

-- a turn lies between the two places
abbrev pub are_parted : List Place → Place → Place → Bool
are_parted turns x y = list_any (lies_between x y) turns

-- inside the two places
abbrev pub is_inside : Place → Place → Place → Bool
is_inside low high t = is_lt (place_cmp low t) && is_lt (place_cmp t high)

-- any two places between which t lies are parted
abbrev pub PartsAt : List Place → Place → Type 0
PartsAt turns t = (x y : Place) → lies_between x y t ≡ true → are_parted turns x y ≡ true

-- a route is there, and it stands at the place
abbrev pub stands_at : Place → Option Route → Bool
stands_at z None = false
stands_at z (Some r) = is_eq (place_cmp z r.0)

-- no route is there, or one whose path names this neighbouring AS
abbrev pub is_alike : Option ℕ → Option Route → Bool
is_alike asn None = true
is_alike asn (Some r) = is_same (neighbour_of r) asn

-- the two routes have the same neighbouring AS, or one of them isn't there
abbrev pub are_alike : Option Route → Option Route → Bool
are_alike before None = true
are_alike before (Some r) = is_alike (neighbour_of r) before

-- a route is there whose path names this neighbouring AS
abbrev pub names : Option ℕ → Option Route → Bool
names asn None = false
names asn (Some r) = is_same (neighbour_of r) asn

-- the places are parted at the route, if one is there whose neighbouring AS isn't this
abbrev pub IsPartedAt : List Place → Option ℕ → Option Route → Type 0
IsPartedAt turns asn None = Unit {0}
IsPartedAt turns asn (Some r) = is_same (neighbour_of r) asn ≡ false → PartsAt turns r.0

-- a turn lies between the place and the route, if the route is a later one whose neighbouring AS isn't this
abbrev pub IsPartedFrom : List Place → Place → Option ℕ → Route → Type 0
IsPartedFrom turns x asn r =
    is_lt (place_cmp x r.0) ≡ true → is_same asn (neighbour_of r) ≡ false → are_parted turns x r.0 ≡ true

-- a turn lies between the route and the place, if the route is an earlier one whose neighbouring AS isn't this
abbrev pub IsPartedTo : List Place → Place → Option ℕ → Route → Type 0
IsPartedTo turns y asn r =
    is_lt (place_cmp r.0 y) ≡ true → is_same (neighbour_of r) asn ≡ false → are_parted turns r.0 y ≡ true

abbrev pub IsPartedAfter : List Place → List Route → Place → Option ℕ → Type 0
IsPartedAfter turns held x asn = AllByRecursion (IsPartedFrom turns x asn) held

abbrev pub IsPartedBefore : List Place → List Route → Place → Option ℕ → Type 0
IsPartedBefore turns held y asn = AllByRecursion (IsPartedTo turns y asn) held

-- both, for a route of this neighbouring AS at the place
pub record IsPartedAround (turns : List Place) (held : List Route) (z : Place) (asn : Option ℕ) : Type 0 where
  pub before : IsPartedBefore turns held z asn
  pub after : IsPartedAfter turns held z asn

-- between two routes of other neighbouring AS lies a turn
abbrev pub IsParted : List Place → List Route → Type 0
IsParted turns held = AllByRecursion (λ r. IsPartedAfter turns held r.0 (neighbour_of r)) held

-- the routes are in the order of their places, with turns among them
pub record AreKept (turns : List Place) (held : List Route) : Type 0 where
  pub parted : IsParted turns held
  pub ordered : IsStrictlySortedBy place_cmp (keys_of held)

-- what was parted still is
abbrev pub StaysParted : List Place → List Place → Type 0
StaysParted old new = (x y : Place) → are_parted old x y ≡ true → are_parted new x y ≡ true

-- the last element that passes
abbrev pub later : {X : Type 0} → Option X → Option X → Option X
later None o = o
later (Some x) o = Some x

abbrev pub find_last : {X : Type 0} → (X → Bool) → List X → Option X
find_last test [] = None
find_last test (x ∷ xs) = later (find_last test xs) (if test x then Some x else None)

-- t and no other turn lies between the two places
abbrev pub is_alone : List Place → Place → Place → Place → Bool
is_alone turns x y t = list_all (λ u. not (lies_between x y u) || is_eq (place_cmp t u)) turns

-- without this turn, if there is one
abbrev pub without : List Place → Option Place → List Place
without turns None = turns
without turns (Some t) = remove_key (is_at (place_cmp t)) turns

-- the last turn up to the place, or None where all lie after it
abbrev pub IsLastUpto : List Place → Place → Option Place → Type 0
IsLastUpto turns z None = AllByRecursion (λ t. is_le (place_cmp t z) ≡ false) turns
IsLastUpto turns z (Some t) =
    (is_le (place_cmp t z) ≡ true) × AllByRecursion (λ u. is_le (place_cmp u z) ≡ true → is_le (place_cmp u t) ≡ true) turns

-- a route of the map, as it is lent
abbrev pub entry_now : Bor Place × Bor Path → Route
entry_now r = (r.0.now, r.1.now)

-- the routes beside a place
pub record AreBeside (held : List Route) (z : Place) (beside : Beside) : Type 0 where
  pub of_routes : beside.paths.now.entries ≡ held
  pub at_place : beside.place ≡ z
  pub before : option_map entry_now beside.before ≡ find_last (is_before z) held
  pub next : option_map entry_now beside.next ≡ find (is_at_or_after z) held
  pub after : option_map entry_now beside.after ≡ find (is_after z) held
  pub ordered : IsStrictlySortedBy place_cmp (keys_of held)
