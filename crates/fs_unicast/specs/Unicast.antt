-- Unicast routes, and the order of the places at which they are kept.
use Rattle.std.specs.{Ordering.{nat_cmp, ordering_then}, declared.cmp.Ordering.{Ordering}, Prelude.{ℕ, ◌≡◌, ◌<◌, ◌^◌, Bool, Option, List, is_some}}
use Rattle.std.specs.{BTreeMap.{insert_entry, is_at}, Map.{remove_entry, lookup, keys_of}, List.{AllByRecursion, Sorted.{IsStrictlySortedBy}}}
use Rattle.fs_base.specs.{Prefix.{prefix_cmp}, declared.{path.Path.{Path}, prefix.Prefix.{Prefix}}}
use Rattle.fs_unicast.specs.declared.unicast.{Place.{Place}, Swap.{Swap}}

-- a route: which peer holds it at which prefix, and its path
abbrev pub Route : Type 0
Route = Place × Path

abbrev pub place_cmp : Place → Place → Ordering
place_cmp a b = ordering_then (prefix_cmp a.prefix b.prefix) (nat_cmp a.peer b.peer)

-- a peer's number has sixteen bits
abbrev pub HasSmallPeers : List Route → Type 0
HasSmallPeers routes = AllByRecursion (λ r. r.0.peer < 2 ^ 16) routes

-- with the peer's path at the prefix, instead of one that it holds
abbrev pub put_path : ℕ → Prefix → Path → List Route → List Route
put_path peer prefix path held = insert_entry place_cmp held (record { prefix = prefix; peer = peer }) path

-- without the peer's path at the prefix
abbrev pub take_path : ℕ → Prefix → List Route → List Route
take_path peer prefix held = remove_entry (is_at (place_cmp (record { prefix = prefix; peer = peer }))) held

-- the peer's path at the prefix, if it holds one
abbrev pub path_at : ℕ → Prefix → List Route → Option Path
path_at peer prefix held = lookup (is_at (place_cmp (record { prefix = prefix; peer = peer }))) held

abbrev pub has_path : ℕ → Prefix → List Route → Bool
has_path peer prefix held = is_some (path_at peer prefix held)

-- from one moment to another only this route has changed, whose path was the old one
pub record IsSwap (swap : Swap) (earlier now : List Route) : Type 0 where
  pub was : path_at swap.peer swap.prefix earlier ≡ swap.old
  pub beside : take_path swap.peer swap.prefix earlier ≡ take_path swap.peer swap.prefix now
  pub sorted : IsStrictlySortedBy place_cmp (keys_of earlier)
  pub ordered : IsStrictlySortedBy place_cmp (keys_of now)

-- the same of this peer at this prefix
pub record IsSwapOf (peer : ℕ) (prefix : Prefix) (swap : Swap) (earlier now : List Route) : Type 0 where
  pub of_peer : swap.peer ≡ peer
  pub at_prefix : swap.prefix ≡ prefix
  pub swapped : IsSwap swap earlier now

-- a swap at a place
abbrev pub swap_at : Place → Option Path → Swap
swap_at z old = record { peer = z.peer; prefix = z.prefix; old = old }
