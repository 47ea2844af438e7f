-- How a change of the table touches what one peer holds, and nothing else; and the change that an update makes.
use Rattle.std.specs.{Prelude.{◌≡◌, ◌==◌, ℕ, List, Option, Some, None, if◌then◌else◌}, List.{list_any}}
use Rattle.fs_base.specs.declared.{path.Path.{Path}, prefix.Prefix.{Prefix}}
use Rattle.fs_nlri.specs.{Parts.{Ruled}, Rule.{shown}}
use Rattle.fs_unicast.specs.declared.unicast.Place.{Place}
use Rattle.fs_attrs.specs.{Prefixes.{Shown}, declared.update.Update.{Update}, Update.{takes_prefixes, takes_rules}}
use Rattle.fs_rules.specs.Table.{Held}
use Rattle.fs_desk.specs.{Leaves.{IsListed, unicast_at, flow_at}, Updates.{last_such, is_prefix, gives_at, is_rule, Given, rule_given, given_with}}

-- what a change makes of what is held at a prefix, and of a rule
abbrev pub PrefixChange : Type 0
PrefixChange = Prefix → Option Path → Option Path

abbrev pub RuleChange : Type 0
RuleChange = Ruled → Option Given → Option Given

-- what is held at each prefix and of each rule behind a change, from what was held before it
pub record Changes (peer : ℕ) (at_prefix : PrefixChange) (of_rule : RuleChange) (old new : Held) : Type 0 where
  pub config_is : new.config ≡ old.config
  pub listed : IsListed old → IsListed new
  pub unicast : IsListed old → (place : Place)
      → unicast_at place new.unicast
      ≡ (if place.peer == peer then at_prefix place.prefix (unicast_at place old.unicast)
      else unicast_at place old.unicast)
  pub flows : IsListed old → (rule : Ruled) (other : ℕ)
      → flow_at rule other new.flows
      ≡ (if other == peer then of_rule rule (flow_at rule other old.flows) else flow_at rule other old.flows)

abbrev pub same : {K A : Type 0} → K → A → A
same key before = before

-- nothing is held any more
abbrev pub nothing : {K A : Type 0} → K → Option A → Option A
nothing key before = None

abbrev pub taken_of : List Shown → Prefix → Option Path → Option Path
taken_of prefixes prefix before = if list_any (is_prefix prefix) prefixes then None else before

abbrev pub given_at : List Shown → Path → Prefix → Option Path → Option Path
given_at prefixes path prefix before = if list_any (is_prefix prefix) prefixes then Some path else before

abbrev pub rules_taken : List Ruled → Ruled → Option Given → Option Given
rules_taken rules rule before = if list_any (is_rule rule) rules then None else before

abbrev pub given_or : Option Given → Option Ruled → Path → List (List ℕ) → Option Given
given_or before None path actions = before
given_or before (Some rule) path actions = Some (rule, path, actions)

abbrev pub rules_given : List Ruled → Path → List (List ℕ) → Ruled → Option Given → Option Given
rules_given rules path actions rule before = given_or before (last_such (is_rule rule) rules) path actions

-- these prefixes and rules are withdrawn, or announced with this path and these actions
abbrev pub Withdraws : ℕ → List Shown → List Ruled → Held → Held → Type 0
Withdraws peer prefixes rules old new = Changes peer (taken_of prefixes) (rules_taken rules) old new

abbrev pub Announces : ℕ → List Shown → List Ruled → Path → List (List ℕ) → Held → Held → Type 0
Announces peer prefixes rules path actions old new =
    Changes peer (given_at prefixes path) (rules_given rules path actions) old new

-- what an update says of a prefix and of a rule
abbrev pub told : Update → Prefix → Option Path → Option Path
told update prefix before =
    if gives_at (shown prefix) update then update.path
    else if list_any (is_prefix prefix) (takes_prefixes update) then None
    else before

abbrev pub told_of : Update → Ruled → Option Given → Option Given
told_of update rule before = elim (rule_given rule update) [
  | Some given ↦ given_with update given
  | None ↦ if list_any (is_rule rule) (takes_rules update) then None else before
]

-- the change that an update makes
abbrev pub Applies : ℕ → Update → Held → Held → Type 0
Applies peer update old new = Changes peer (told update) (told_of update) old new
