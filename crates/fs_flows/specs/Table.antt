-- What a table holds, how its calls change it, the flow routes that a change at a prefix can touch, and the
-- admitted rules of a family (RFC 8955 sections 5.1 and 6). Flow routes stand in the order of rules, and of one rule
-- by peer.
use Rattle.std.specs.Prelude.{ℕ, ◌==◌, Bool, not, List, [], ◌∷◌, filter, length, ◌+◌, false, Option, Some, None, if◌then◌else◌, ◌≡◌, ◌&&◌, true}
use Rattle.std.specs.{List.{list_any, AllByRecursion}, Ordering.{nat_cmp, ordering_then, match_ordering, is_eq}}
use Rattle.std.specs.declared.cmp.Ordering.{Ordering, TheVariants.{Less}}
use Rattle.fs_base.specs.{declared.{config.Config.{Config}, path.Path.{Path}, prefix.{Prefix.{Prefix}, Family.{Family}}}, Bits.{afi_of}}
use Rattle.fs_nlri.specs.{Parts.{Ruled}, Rule.{IsRule, destination_prefix}}
use Rattle.fs_order.specs.Comparison.{rule_cmp}
use Rattle.fs_unicast.specs.{Unicast.{Route, put_path, take_path}, Preference.{preferred}}
use Rattle.fs_validate.specs.declared.route.FlowRoute.{FlowRoute}
use Rattle.fs_validate.specs.declared.validity.Validity.{Validity, TheVariants.{Valid, NoDestination, Originator, MoreSpecific, LeftAs}}
use Rattle.fs_validate.specs.{Laws.{is_related}, Validity.{validity}}

-- the configuration, and all routes that peers hold
pub record Held : Type 0 where
  pub config : Config
  pub unicast : List Route
  pub flows : List FlowRoute

-- a flow route is of a rule and a peer
abbrev pub key_cmp : Ruled → ℕ → FlowRoute → Ordering
key_cmp rule peer r = ordering_then (rule_cmp rule r.rule) (nat_cmp peer r.peer)

-- with the route in its place, instead of one of its key
abbrev pub put_route : FlowRoute → List FlowRoute → List FlowRoute
put_route r [] = r ∷ []
put_route r (x ∷ xs) = match_ordering (key_cmp r.rule r.peer x) (r ∷ x ∷ xs) (r ∷ xs) (x ∷ put_route r xs)

abbrev pub is_key : Ruled → ℕ → FlowRoute → Bool
is_key rule peer r = is_eq (key_cmp rule peer r)

-- without the route of that key
abbrev pub without_route : Ruled → ℕ → List FlowRoute → List FlowRoute
without_route rule peer flows = filter (λ r. not (is_key rule peer r)) flows

-- with the peer's route of the rule, instead of one that it holds
abbrev pub with_flow : ℕ → Ruled → Path → List (List ℕ) → Held → Held
with_flow peer rule path actions held =
    record held { flows = put_route (record { peer = peer; rule = rule; path = path; actions = actions }) held.flows }

-- with the peer's path at the prefix, instead of one that it holds
abbrev pub with_path : ℕ → Prefix → Path → Held → Held
with_path peer prefix path held = record held { unicast = put_path peer prefix path held.unicast }

-- without the peer's path at the prefix
abbrev pub without_path : ℕ → Prefix → Held → Held
without_path peer prefix held = record held { unicast = take_path peer prefix held.unicast }

abbrev pub has_route : Ruled → ℕ → List FlowRoute → Bool
has_route rule peer flows = list_any (is_key rule peer) flows

-- without what a peer gave
abbrev pub without_peer_unicast : ℕ → List Route → List Route
without_peer_unicast peer unicast = filter (λ r. not (r.0.peer == peer)) unicast

abbrev pub without_peer_flows : ℕ → List FlowRoute → List FlowRoute
without_peer_flows peer flows = filter (λ r. not (r.peer == peer)) flows

abbrev pub without_peer : ℕ → Held → Held
without_peer peer held =
    record held { unicast = without_peer_unicast peer held.unicast; flows = without_peer_flows peer held.flows }

-- how many routes of a peer stand in these lists
abbrev pub count_in : ℕ → List Route → List FlowRoute → ℕ
count_in peer unicast flows = length (filter (λ r. r.0.peer == peer) unicast) + length (filter (λ r. r.peer == peer) flows)

-- how many routes a peer holds: its unicast routes and its flow routes
abbrev pub held_count : ℕ → Held → ℕ
held_count peer held = count_in peer held.unicast held.flows

-- the destination covers p or is covered by it
abbrev pub has_related : Prefix → Option Prefix → Bool
has_related p None = false
has_related p (Some d) = is_related p d

-- how many held flow routes have a destination that covers p or is covered by it
abbrev pub related_count : Prefix → List FlowRoute → ℕ
related_count p [] = 0
related_count p (r ∷ rs) = (if has_related p (destination_prefix r.rule) then 1 else 0) + related_count p rs

-- the sum of these counts over the prefixes of a peer's unicast routes
abbrev pub related_sum : ℕ → List Route → List FlowRoute → ℕ
related_sum peer [] flows = 0
related_sum peer (r ∷ rs) flows =
    (if r.0.peer == peer then related_count r.0.prefix flows else 0) + related_sum peer rs flows

abbrev pub is_of_family : Family → FlowRoute → Bool
is_of_family family r = afi_of r.rule.family == afi_of family

abbrev pub is_valid : Validity → Bool
is_valid Valid = true
is_valid NoDestination = false
is_valid Originator = false
is_valid MoreSpecific = false
is_valid LeftAs = false

-- a route of the family, whose rule is in normal form
pub record IsRuleOf (f : Family) (r : FlowRoute) : Type 0 where
  pub family : r.rule.family ≡ f
  pub rule : IsRule r.rule

-- valid, over all held unicast routes
abbrev pub stands : Held → FlowRoute → Bool
stands held r = is_valid (validity held.unicast held.config r)

abbrev pub same_rule : FlowRoute → FlowRoute → Bool
same_rule r s = is_eq (rule_cmp r.rule s.rule)

-- s is of the rule of r, and preferred to it
abbrev pub beats : FlowRoute → FlowRoute → Bool
beats s r = same_rule s r && preferred (s.peer, s.path) (r.peer, r.path)

-- a valid route of which no valid route of its rule is preferred
abbrev pub is_most_preferred : Held → FlowRoute → Bool
is_most_preferred held r = stands held r && not (list_any (λ s. stands held s && beats s r) held.flows)

-- the most preferred valid route of each rule of the family
abbrev pub admitted : Family → Held → List FlowRoute
admitted family held = filter (λ r. is_of_family family r && is_most_preferred held r) held.flows

-- each earlier rule is before each later one
abbrev pub AreOrdered : List FlowRoute → Type 0
AreOrdered [] = Unit {0}
AreOrdered (r ∷ rs) = AllByRecursion (λ s. rule_cmp r.rule s.rule ≡ Less) rs × AreOrdered rs

-- if the route stands, its rule is in the list
abbrev pub HasRule : Family → Held → List FlowRoute → FlowRoute → Type 0
HasRule family held list r = (is_of_family family r && stands held r) ≡ true → list_any (same_rule r) list ≡ true

-- The list is the admitted rules in order: it has the most preferred valid route of each rule, each rule of the
-- family that has a valid route stands in it, and each earlier rule is before each later one.
pub record IsAdmitted (family : Family) (held : Held) (list : List FlowRoute) : Type 0 where
  pub chosen : list ≡ filter (λ r. is_of_family family r && is_most_preferred held r) held.flows
  pub each_rule : AllByRecursion (HasRule family held list) held.flows
  pub ordered : AreOrdered list
