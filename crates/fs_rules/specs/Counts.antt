-- The counts of the routes that each peer holds, and the prefixes at which it gave unicast routes.
use Rattle.std.specs.Prelude.{◌≡◌, ℕ, ◌+◌, ◌<◌, ◌^◌, ◌==◌, Bool, true, false, Option, Some, None, List}
use Rattle.std.specs.{BTreeMap.{is_at}, List.{AllByRecursion, Sorted.{IsStrictlySortedBy}}, Map.{keys_of, lookup}, Ordering.{nat_cmp}}
use Rattle.fs_base.specs.declared.{config.Config.{Config}, prefix.Prefix.{Prefix}}
use Rattle.fs_unicast.specs.Unicast.{Route, place_cmp}
use Rattle.fs_flows.specs.{Kept.{Kept}, Group.{Keeps, routes_of}, Destinations.{Prefixes, has, is_among}, Table.{count_in}}

-- how many routes a peer holds, and the prefixes at which it gave unicast routes
pub record Holding : Type 0 where
  pub count : ℕ
  pub prefixes : Prefixes

-- those of each peer
abbrev pub Counts : Type 0
Counts = List (ℕ × Holding)

abbrev pub count_held : Option Holding → ℕ
count_held None = 0
count_held (Some held) = held.count

abbrev pub may_hold_in : Option Holding → Prefix → Bool
may_hold_in None prefix = false
may_hold_in (Some held) prefix = has held.prefixes prefix

-- a peer that isn't listed holds none
abbrev pub count_of : ℕ → Counts → ℕ
count_of peer counts = count_held (lookup (is_at (nat_cmp peer)) counts)

-- the prefix is listed for the peer, or any may be one
abbrev pub may_hold : Counts → ℕ → Prefix → Bool
may_hold counts peer prefix = may_hold_in (lookup (is_at (nat_cmp peer)) counts) prefix

-- what was listed still is
abbrev pub StaysHeld : Counts → Counts → Type 0
StaysHeld old new = (peer : ℕ) (p : Prefix) → may_hold old peer p ≡ true → may_hold new peer p ≡ true

-- the count can rise
pub record HasRoom (peer : ℕ) (counts : Counts) : Type 0 where
  pub held : Holding
  pub there : lookup (is_at (nat_cmp peer)) counts ≡ Some held
  pub small : held.count + 1 < 2 ^ 64

-- each unicast route stands at a prefix that is listed for its peer
abbrev pub AreHeld : Counts → List Route → Type 0
AreHeld counts unicast = AllByRecursion (λ r. may_hold counts r.0.peer r.0.prefix ≡ true) unicast

-- of the peer's unicast routes each stands at one of these prefixes
abbrev pub AreAmong : ℕ → List Prefix → List Route → Type 0
AreAmong peer prefixes unicast = AllByRecursion (λ r. (r.0.peer == peer) ≡ true → is_among prefixes r.0.prefix ≡ true) unicast

-- what the table keeps: flow routes with their validities, and of each peer the count of its routes and where its
-- unicast routes stand, which are in order
pub record IsKept (config : Config) (unicast : List Route) (kept : List Kept) (counts : Counts) : Type 0 where
  pub keeps : Keeps config unicast kept
  pub counted : (peer : ℕ) → count_of peer counts ≡ count_in peer unicast (routes_of kept)
  pub held : AreHeld counts unicast
  pub ordered : IsStrictlySortedBy place_cmp (keys_of unicast)
