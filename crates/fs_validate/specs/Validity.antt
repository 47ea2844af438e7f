-- The validity of a flow route, over the list of all held unicast routes (RFC 8955 section 6 as RFC 9117 section 4
-- revises it).
use Rattle.std.specs.Prelude.{ℕ, ◌==◌, ◌&&◌, ◌||◌, not, Bool, false, Option, Some, None, List, if◌then◌else◌, option_map}
use Rattle.fs_base.specs.declared.{config.Config.{Config}, path.Path.{Path}, prefix.Prefix.{Prefix}}
use Rattle.fs_unicast.specs.{Neighbour.{first_as, neighbour_as}, Unicast.{Route}, Search.{best_match_of, others_under}}
use Rattle.fs_nlri.specs.{Parts.{Ruled}, Rule.{destination_prefix}}
use Rattle.fs_validate.specs.Originator.{originator_of, same_originator, is_local}
use Rattle.fs_validate.specs.declared.route.FlowRoute.{FlowRoute}
use Rattle.fs_validate.specs.declared.validity.Validity.{Validity, TheVariants.{Valid, NoDestination, Originator, MoreSpecific, LeftAs}}

-- a route by its parts: the peer that gave it, its rule, its path and its actions
abbrev pub flow_route : ℕ → Ruled → Path → List (List ℕ) → FlowRoute
flow_route peer rule path actions = record { peer = peer; rule = rule; path = path; actions = actions }

-- rule b
abbrev pub has_best_originator : Config → FlowRoute → Option (ℕ × Path) → Bool
has_best_originator config route None = false
has_best_originator config route (Some best) =
    same_originator (originator_of config (route.peer, route.path)) (originator_of config best)

abbrev pub has_originator : Config → FlowRoute → Option (ℕ × Path) → Bool
has_originator config route best =
    (config.empty_path_valid && is_local route.path.segments) || has_best_originator config route best

-- rule c: the neighbouring AS that each route strictly under the destination is to have
abbrev pub neighbour_of_best : Config → Option (ℕ × Path) → Option ℕ
neighbour_of_best config best = option_map (λ b. neighbour_as config.local_as b.1.segments) best

-- RFC 9117 section 4.2
abbrev pub same_as : Option ℕ → Option ℕ → Bool
same_as (Some a) (Some b) = a == b
same_as _ _ = false

abbrev pub has_best_leftmost : FlowRoute → Option (ℕ × Path) → Bool
has_best_leftmost route None = false
has_best_leftmost route (Some best) = same_as (first_as route.path.segments) (first_as best.1.segments)

-- rule d
abbrev pub has_leftmost : FlowRoute → Option (ℕ × Path) → Bool
has_leftmost route best = not route.path.external || has_best_leftmost route best

-- the first rule that a route breaks whose destination has this best match, and under which another neighbouring AS
-- is or isn't
abbrev pub judged : Config → FlowRoute → Option (ℕ × Path) → Bool → Validity
judged config route best others =
    if has_originator config route best then
    (if others then MoreSpecific else (if has_leftmost route best then Valid else LeftAs)) else Originator

-- the first rule that a route with this destination and this best match breaks
abbrev pub validity_at : List Route → Config → FlowRoute → Prefix → Option (ℕ × Path) → Validity
validity_at held config route destination best =
    judged config route best (others_under held destination config.local_as (neighbour_of_best config best))

-- rule a: without a destination the other rules are disregarded
abbrev pub validity_without : Config → Validity
validity_without config = if config.allow_no_destination then Valid else NoDestination

abbrev pub validity_to : List Route → Config → FlowRoute → Option Prefix → Validity
validity_to held config route None = validity_without config
validity_to held config route (Some destination) =
    validity_at held config route destination (best_match_of held destination)

abbrev pub validity : List Route → Config → FlowRoute → Validity
validity held config route = validity_to held config route (destination_prefix route.rule)
