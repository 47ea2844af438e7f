-- The routes that a tape leaves held.
use Rattle.std.specs.Prelude.{◌≡◌, ℕ, List, [], find, map, Bool, false, if◌then◌else◌, Option, Some, None, option_map}
use Rattle.std.specs.{Ordering.{nat_cmp, ordering_then}, declared.cmp.Ordering.{Ordering}, List.Sorted.{IsStrictlySortedBy}, Map.{lookup, keys_of}}
use Rattle.std.specs.BTreeMap.{is_at}
use Rattle.fs_base.specs.declared.{config.Config.{Config}, path.Path.{Path}}
use Rattle.fs_nlri.specs.Parts.{Ruled}
use Rattle.fs_order.specs.Comparison.{rule_cmp}
use Rattle.fs_unicast.specs.{Unicast.{place_cmp, Route}, declared.unicast.Place.{Place}}
use Rattle.fs_attrs.specs.declared.update.Update.{Update}
use Rattle.fs_validate.specs.declared.route.FlowRoute.{FlowRoute}
use Rattle.fs_rules.specs.Table.{Held, is_key}
use Rattle.fs_speaker.specs.Session.{Last, still, closed}
use Rattle.fs_tape.specs.Tape.{Item}
use Rattle.fs_desk.specs.{Life.{life}, Limit.{bounded_session}, Updates.{Given, unicast_left, flow_left}}

-- of a session that has closed no update counts
abbrev pub counted : List Update × Last → List Update
counted (updates, still standing) = updates
counted (updates, closed why) = []

-- the updates of a peer's present life that count
abbrev pub updates_of : Config → List Item → ℕ → List Update
updates_of config items number =
    elim (life number items) [ None ↦ [] | Some octets ↦ counted (bounded_session config number octets) ]

-- of no peer
abbrev pub nobody : ℕ → Bool
nobody number = false

-- but of the peers whose sessions the clock has closed none counts
abbrev pub updates_but : (expired : ℕ → Bool) → Config → List Item → ℕ → List Update
updates_but expired config items number = if expired number then [] else updates_of config items number

-- a flow route is of a rule and a peer; by these it is listed
abbrev pub FlowKey : Type 0
FlowKey = Ruled × ℕ

abbrev pub flow_key : FlowRoute → FlowKey
flow_key r = (r.rule, r.peer)

abbrev pub flow_key_cmp : FlowKey → FlowKey → Ordering
flow_key_cmp a b = ordering_then (rule_cmp a.0 b.0) (nat_cmp a.1 b.1)

-- one route a key, by rising keys
pub record IsListed (held : Held) : Type 0 where
  pub unicast : IsStrictlySortedBy place_cmp (keys_of held.unicast)
  pub flows : IsStrictlySortedBy flow_key_cmp (map flow_key held.flows)

-- what a peer holds at a prefix
abbrev pub unicast_at : Place → List Route → Option Path
unicast_at place unicast = lookup (is_at (place_cmp place)) unicast

abbrev pub given_of : FlowRoute → Given
given_of r = (r.rule, r.path, r.actions)

-- what a peer holds of a rule
abbrev pub flow_at : Ruled → ℕ → List FlowRoute → Option Given
flow_at rule peer flows = option_map given_of (find (is_key rule peer) flows)

-- Exactly these routes are held, each listed once: of each peer what the updates that count leave it holding.
pub record LeavesBut (expired : ℕ → Bool) (config : Config) (items : List Item) (held : Held) : Type 0 where
  pub config_is : held.config ≡ config
  pub listed : IsListed held
  pub unicast : (place : Place)
      → unicast_at place held.unicast ≡ unicast_left place.prefix (updates_but expired config items place.peer)
  pub flows : (rule : Ruled) (peer : ℕ)
      → flow_at rule peer held.flows ≡ flow_left rule (updates_but expired config items peer)

-- so where the clock has closed no session
abbrev pub Leaves : Config → List Item → Held → Type 0
Leaves config items held = LeavesBut nobody config items held
