-- What the updates of a peer leave it holding at one key.
use Rattle.std.specs.Prelude.{◌==◌, ◌&&◌, ◌||◌, ℕ, List, [], ◌∷◌, Bool, Option, Some, None, if◌then◌else◌, is_some, option_map, option_and_then}
use Rattle.std.specs.{List.{list_any}, Ordering.{is_eq}}
use Rattle.fs_base.specs.{Bits.{afi_of}, declared.{path.Path.{Path}, prefix.Prefix.{Prefix}}}
use Rattle.fs_nlri.specs.{Parts.{Ruled}, Rule.{shown}}
use Rattle.fs_order.specs.Comparison.{rule_cmp}
use Rattle.fs_attrs.specs.{Prefixes.{Shown}, declared.update.Update.{Update}, Update.{takes_prefixes, gives_prefixes, takes_rules, gives_rules}}

-- the last element that passes the test
abbrev pub last_such : {A : Type 0} → (A → Bool) → List A → Option A
last_such test [] = None
last_such test (x ∷ xs) =
    elim (last_such test xs) [ Some found ↦ Some found | None ↦ if test x then Some x else None ]

-- prefixes as updates list them are one: by family, bits and length
abbrev pub same_prefix : Shown → Shown → Bool
same_prefix prefix other = (afi_of prefix.0 == afi_of other.0) && ((prefix.1 == other.1) && (prefix.2 == other.2))

abbrev pub is_prefix : Prefix → Shown → Bool
is_prefix prefix other = same_prefix (shown prefix) other

abbrev pub gives_at : Shown → Update → Bool
gives_at prefix update = list_any (same_prefix prefix) (gives_prefixes update)

-- the update takes the prefix or gives it
abbrev pub tells_of : Shown → Update → Bool
tells_of prefix update = list_any (same_prefix prefix) (takes_prefixes update) || gives_at prefix update

-- the last update that tells of the prefix decides: it gives it with the update's path, or takes it
abbrev pub path_left : Shown → List Update → Option Path
path_left prefix updates =
    option_and_then (λ update. if gives_at prefix update then update.path else None)
    (last_such (tells_of prefix) updates)

abbrev pub unicast_left : Prefix → List Update → Option Path
unicast_left prefix updates = path_left (shown prefix) updates

abbrev pub is_rule : Ruled → Ruled → Bool
is_rule rule other = is_eq (rule_cmp rule other)

-- what a peer gave of a rule: the rule, and the path and the actions of its update
abbrev pub Given : Type 0
Given = Ruled × Path × List (List ℕ)

-- the rule as the update gives it
abbrev pub rule_given : Ruled → Update → Option Ruled
rule_given rule update = last_such (is_rule rule) (gives_rules update)

abbrev pub tells_of_rule : Ruled → Update → Bool
tells_of_rule rule update = list_any (is_rule rule) (takes_rules update) || is_some (rule_given rule update)

abbrev pub given_with : Update → Ruled → Option Given
given_with update rule = option_map (λ path. (rule, path, update.actions)) update.path

-- likewise of a rule
abbrev pub flow_left : Ruled → List Update → Option Given
flow_left rule updates =
    option_and_then (λ update. option_and_then (given_with update) (rule_given rule update))
    (last_such (tells_of_rule rule) updates)
