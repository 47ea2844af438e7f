-- The prefixes at which each peer gave routes.
use Rattle.std.specs.Prelude.{ℕ, ◌≡◌, ◌||◌, Bool, true, false, Option, Some, None, List, [], ◌∷◌, MatchOption}
use Rattle.std.specs.{BTreeMap.{is_at}, List.{list_any, AllByRecursion}, Map.{lookup}, Ordering.{nat_cmp, is_eq}}
use Rattle.fs_base.specs.{declared.prefix.Prefix.{Prefix}, Prefix.{prefix_cmp}}
use Rattle.fs_nlri.specs.Rule.{destination_prefix}
use Rattle.fs_flows.specs.{Kept.{Kept}, Groups.{Entry, keep_at}}

-- those of a peer, or any
pub record Prefixes : Type 0 where
  pub keys : List Prefix
  pub all : Bool

-- the destinations to which each peer gave flow routes, or any of each
pub record Destinations : Type 0 where
  pub by_peer : List (ℕ × Prefixes)
  pub all : Bool

abbrev pub is_among : List Prefix → Prefix → Bool
is_among keys prefix = list_any (λ key. is_eq (prefix_cmp key prefix)) keys

abbrev pub has : Prefixes → Prefix → Bool
has held prefix = held.all || is_among held.keys prefix

abbrev pub has_in : Option Prefixes → Prefix → Bool
has_in None prefix = false
has_in (Some held) prefix = has held prefix

-- the route's destination, if it has one, is listed
abbrev pub HasDestination : Prefixes → Kept → Type 0
HasDestination held k = MatchOption (destination_prefix k.route.rule) (Unit {0}) (λ d. has held d ≡ true)

-- what is listed for a peer
abbrev pub of_peer : ℕ → Destinations → Option Prefixes
of_peer peer listed = lookup (is_at (nat_cmp peer)) listed.by_peer

abbrev pub lists : Destinations → ℕ → Prefix → Bool
lists listed peer destination = listed.all || has_in (of_peer peer listed) destination

-- what was listed still is
abbrev pub StaysListed : Destinations → Destinations → Type 0
StaysListed old new = (peer : ℕ) (d : Prefix) → lists old peer d ≡ true → lists new peer d ≡ true

-- the route's destination, if it has one, is among these
abbrev pub IsAmong : List Prefix → Kept → Type 0
IsAmong keys k = MatchOption (destination_prefix k.route.rule) (Unit {0}) (λ d. is_among keys d ≡ true)

-- the route's destination, if it has one, is listed for its peer
abbrev pub IsListed : Destinations → Kept → Type 0
IsListed listed k = MatchOption (destination_prefix k.route.rule) (Unit {0}) (λ d. lists listed k.route.peer d ≡ true)

pub record AreListed (listed : Destinations) (v4 v6 : List Kept) : Type 0 where
  pub first : AllByRecursion (IsListed listed) v4
  pub second : AllByRecursion (IsListed listed) v6

-- at each of these destinations in turn what passes of its group
abbrev pub keep_along : List Prefix → (Kept → Bool) → List Entry → List Entry
keep_along [] keeps es = es
keep_along (d ∷ ds) keeps es = keep_along ds keeps (keep_at d keeps es)
