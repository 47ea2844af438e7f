-- The rules that act, the lines that lead from some to others, and their text.
use Rattle.std.specs.{Prelude.{◌≡◌, ◌&&◌, ℕ, ◌+◌, Bool, List, [], ◌++◌, map, flat_map, codes, decimal}, List.{AllByRecursion}, Ordering.{is_eq, is_gt}}
use Rattle.fs_actions.specs.Same.{same_actions}
use Rattle.fs_base.specs.declared.prefix.Family.{TheVariants.{V4, V6}}
use Rattle.fs_nlri.specs.{Parts.{Ruled}, Rule.{IsRule}}
use Rattle.fs_order.specs.Comparison.{rule_cmp}
use Rattle.fs_rules.specs.Table.{Held, admitted}
use Rattle.fs_validate.specs.declared.route.FlowRoute.{FlowRoute}
use Rattle.fs_text.specs.Printed.{text_of}
use Rattle.fs_changes.specs.Difference.{Line, gone, come, Make, difference}

-- a rule that acts, and what it does; which peer gave it isn't told
pub record Act : Type 0 where
  pub rule : Ruled
  pub actions : List (List ℕ)

abbrev pub act_of : FlowRoute → Act
act_of r = record { rule = r.rule; actions = r.actions }

abbrev pub acts_of : List FlowRoute → List Act
acts_of routes = map act_of routes

-- a rule of the new list is before one of the old
abbrev pub is_before : Act → Act → Bool
is_before n o = is_gt (rule_cmp o.rule n.rule)

abbrev pub is_same : Act → Act → Bool
is_same o n = is_eq (rule_cmp o.rule n.rule) && same_actions o.actions n.actions

-- the lines that lead from one list to another, after so many rules that both have
abbrev pub changes : ℕ → (old new : List Act) → List (Line Act)
changes k old new = difference is_before is_same k old new

-- a line tells its moment, its sign, its place from 1, and the rule in words
abbrev pub told_text : (moment : ℕ) → (sign : List ℕ) → ℕ → Act → List ℕ
told_text moment sign k act =
    decimal moment
    ++ (sign ++ (decimal (k + 1) ++ (codes " " ++ (text_of act.rule act.actions ++ codes "\n"))))

abbrev pub line_text : (moment : ℕ) → Line Act → List ℕ
line_text moment (gone k act) = told_text moment (codes " - ") k act
line_text moment (come k act) = told_text moment (codes " + ") k act

abbrev pub lines_text : (moment : ℕ) → List (Line Act) → List ℕ
lines_text moment lines = flat_map (line_text moment) lines

-- the flow routes whose rules act, of each family in the order of rules
pub record ActingRules : Type 0 where
  pub v4 : List FlowRoute
  pub v6 : List FlowRoute

abbrev pub none_act : ActingRules
none_act = record { v4 = []; v6 = [] }

-- the admitted rules
abbrev pub acting_in : Held → ActingRules
acting_in held = record { v4 = admitted V4 held; v6 = admitted V6 held }

-- the lines of a moment: first of IPv4, then of IPv6
abbrev pub told : (moment : ℕ) → (old new : ActingRules) → List ℕ
told moment old new =
    lines_text moment (changes 0 (acts_of old.v4) (acts_of new.v4))
    ++ lines_text moment (changes 0 (acts_of old.v6) (acts_of new.v6))

-- each is a rule
abbrev pub AreRules : List Act → Type 0
AreRules acts = AllByRecursion (λ (act : Act). IsRule act.rule) acts

-- Whoever applies the lines holds the new list, and each line fits.
abbrev pub Leads : Type 0
Leads = (old new : List Act) → AreRules old → AreRules new → Make (changes 0 old new) old new

-- A list leads to itself by no line.
abbrev pub SaysNothing : Type 0
SaysNothing = (acts : List Act) → changes 0 acts acts ≡ []
