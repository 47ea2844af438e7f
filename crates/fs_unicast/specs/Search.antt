-- The best route at a prefix, the best match of a prefix, and the routes under it, over one list of held routes.
use Rattle.std.specs.Prelude.{ℕ, ◌≡◌, Bool, not, ◌&&◌, ◌||◌, ◌==◌, true, false, Option, Some, None, List, [], ◌∷◌, filter, map, nat_le, find}
use Rattle.std.specs.Prelude.{option_map}
use Rattle.std.specs.{List.{AllByRecursion, list_any, list_all}, Ordering.{is_eq, is_le}}
use Rattle.std.specs.declared.ops.Bound.{Bound, TheVariants.{Included, Unbounded}}
use Rattle.fs_base.specs.{Prefix.{covers, prefix_cmp}, declared.{prefix.Prefix.{Prefix}, path.Path.{Path}}}
use Rattle.fs_unicast.specs.{Neighbour.{neighbour_as}, Unicast.{Route}, Preference.{best_of}, declared.unicast.{Place.{Place}, Swap.{Swap}}}

abbrev pub candidate : Route → ℕ × Path
candidate r = (r.0.peer, r.1)

abbrev pub is_same_prefix : Prefix → Prefix → Bool
is_same_prefix p q = is_eq (prefix_cmp p q)

-- the most preferred route at p
abbrev pub best_at : List Route → Prefix → Option (ℕ × Path)
best_at held p = best_of (map candidate (filter (λ r. is_same_prefix p r.0.prefix) held))

-- its prefix covers d, and no route has a longer one that does
abbrev pub is_longest : List Route → Prefix → Route → Bool
is_longest held d r =
    covers r.0.prefix d && list_all (λ s. not (covers s.0.prefix d) || nat_le s.0.prefix.length r.0.prefix.length) held

-- the most preferred route at the longest prefix that covers d and has one
abbrev pub best_match_of : List Route → Prefix → Option (ℕ × Path)
best_match_of held d = best_of (map candidate (filter (is_longest held d) held))

-- low covers d, and each prefix of a route that covers d covers low too
pub record AreCoversOver (held : List Route) (d low : Prefix) : Type 0 where
  pub over : covers low d ≡ true
  pub each_covers : AllByRecursion (λ r. covers r.0.prefix d ≡ true → covers r.0.prefix low ≡ true) held

-- where a route's prefix is another, so is that of each later one
abbrev pub IsFront : Prefix → List Route → Type 0
IsFront p [] = Unit {0}
IsFront p (r ∷ rs) = (is_same_prefix p r.0.prefix ≡ false → filter (λ s. is_same_prefix p s.0.prefix) rs ≡ []) × IsFront p rs

-- at p, and not the peer's
abbrev pub is_beside : Prefix → ℕ → Place → Bool
is_beside p peer q = is_same_prefix p q.prefix && not (q.peer == peer)

-- the route that the swap's peer had
abbrev pub old_route : Swap → Option (ℕ × Path)
old_route swap = option_map (λ path. (swap.peer, path)) swap.old

-- the neighbouring AS of a route, if there is one
abbrev pub neighbour_of : ℕ → Option (ℕ × Path) → Option ℕ
neighbour_of local_as route = option_map (λ r. neighbour_as local_as r.1.segments) route

-- whether the path has another neighbouring AS than this; without one, always
abbrev pub is_other : ℕ → Option ℕ → Path → Bool
is_other local_as None path = true
is_other local_as (Some asn) path = not (neighbour_as local_as path.segments == asn)

-- of a route, if there is one
abbrev pub is_other_route : ℕ → Option ℕ → Option (ℕ × Path) → Bool
is_other_route local_as asn None = false
is_other_route local_as asn (Some r) = is_other local_as asn r.1

abbrev pub is_strictly_under : Prefix → Prefix → Bool
is_strictly_under d p = covers d p && not (is_same_prefix d p)

-- whether a route strictly under d has another neighbouring AS than `asn`
abbrev pub others_under : List Route → Prefix → ℕ → Option ℕ → Bool
others_under held d local_as asn = list_any (λ r. is_strictly_under d r.0.prefix && is_other local_as asn r.1) held

-- from a prefix on, or from the start
abbrev pub is_from : Option Prefix → Prefix → Bool
is_from None p = true
is_from (Some low) p = is_le (prefix_cmp low p)

-- the first prefix from there on at which the peer holds a route
abbrev pub held_by : List Route → ℕ → Option Prefix → Option Prefix
held_by held peer from = option_map (λ r. r.0.prefix) (find (λ r. is_from from r.0.prefix && (r.0.peer == peer)) held)

-- where the places from a prefix on start, or all places
abbrev pub start_of : Option Prefix → Bound Place
start_of None = Unbounded
start_of (Some prefix) = Included (record { prefix = prefix; peer = 0 })
