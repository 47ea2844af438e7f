-- The walk of a packet over the admitted rules of its family, in their order (RFC 8955 sections 5.1 and 7.3).
use Rattle.std.specs.{Prelude.{ℕ, ◌+◌, Bool, Option, Some, None, List, [], ◌∷◌, find, nat_le, if◌then◌else◌}, List.{list_any}}
use Rattle.fs_actions.specs.Community.{has_flag}
use Rattle.fs_packet.specs.{Fields.{Viewed}, Matching.{is_match}}
use Rattle.fs_validate.specs.declared.route.FlowRoute.{FlowRoute}
use Rattle.fs_rules.specs.Lent.{Listed}

-- the terminal bit of a traffic-action is set, so that later rules are evaluated too (RFC 8955 section 7.3)
abbrev pub goes_on : List (List ℕ) → Bool
goes_on actions = list_any (has_flag 1) actions

-- The entries walked, each with its number and its actions, where the first of these rules has this number: those that
-- match, in order, up to and with the first whose terminal bit is clear.
abbrev pub walk_from : ℕ → Viewed → List Listed → List (ℕ × List (List ℕ))
walk_from number view [] = []
walk_from number view (rule ∷ rules) =
    if is_match rule.rule view
    then (number, rule.actions) ∷ (if goes_on rule.actions then walk_from (number + 1) view rules else [])
    else walk_from (number + 1) view rules

-- the place of the first of these rules that matches, where the first of them has this place
abbrev pub first_from : ℕ → Viewed → List Listed → Option ℕ
first_from place view [] = None
first_from place view (rule ∷ rules) = if is_match rule.rule view then Some place else first_from (place + 1) view rules

-- the walk over the admitted rules of a family, which are numbered from 1
abbrev pub walk_of : Viewed → List Listed → List (ℕ × List (List ℕ))
walk_of view rules = walk_from 1 view rules

-- the numbers of the routes whose rule matches, where the first of them has number m
abbrev pub matching_from : Viewed → ℕ → List FlowRoute → List ℕ
matching_from view m [] = []
matching_from view m (r ∷ rs) = if is_match r.rule view then m ∷ matching_from view (m + 1) rs else matching_from view (m + 1) rs

-- the least number from n on whose rule matches
abbrev pub next_match : Viewed → ℕ → List FlowRoute → Option ℕ
next_match view n list = find (λ k. nat_le n k) (matching_from view 0 list)
