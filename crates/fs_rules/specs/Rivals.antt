-- Routes of the same rule beside a place, and which of two is preferred.
use Rattle.std.specs.{Prelude.{◌&&◌, not, Bool, true, false, Option, Some, None}, Ordering.{is_gt}}
use Rattle.fs_nlri.specs.Parts.{Ruled}
use Rattle.fs_unicast.specs.Preference.{preferred}
use Rattle.fs_validate.specs.Validity.{validity}
use Rattle.fs_flows.specs.{Kept.{Kept}, Table.{key_cmp, is_valid, same_rule}}

-- s is valid and preferred to k
abbrev pub is_better : Kept → Kept → Bool
is_better s k = is_valid s.validity && preferred (s.route.peer, s.route.path) (k.route.peer, k.route.path)

-- of what stands at a place, whether it stands before all routes of a rule
abbrev pub is_before_rule : Ruled → Option Kept → Bool
is_before_rule rule None = false
is_before_rule rule (Some k) = is_gt (key_cmp rule 0 k.route)

-- of what stands at a place, whether it is a route of another rule, or none
abbrev pub is_apart : Kept → Option Kept → Bool
is_apart k None = true
is_apart k (Some s) = not (same_rule s.route k.route)
