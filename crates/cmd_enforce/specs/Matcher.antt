-- For which rules compiled ones stand, and what a walk by them takes.
use Rattle.std.specs.Prelude.{ℕ, ◌≡◌, ◌≤◌, List, length}
use Rattle.fs_base.specs.declared.prefix.Family.{Family}
use Rattle.fs_compile.specs.{Index.{actions_of}, Matcher.{StandsForLists, admitted_in}, Mending.{AreOwn}, declared.compiled.Compiled.{Compiled}}
use Rattle.fs_packet.specs.Fields.{Viewed}
use Rattle.fs_rules.specs.{Lent.{Listed}, Table.{Held}}
use Rattle.cmd_enforce.specs.Judge.{AdmittedRules, admitted_rules, rules_for}

-- they stand for these admitted rules
abbrev pub StandsFor : AdmittedRules → Compiled → Type 0
StandsFor rules compiled = StandsForLists (λ family. rules_for family rules) compiled

-- they stand for some
abbrev pub IsSound : Compiled → Type 0
IsSound compiled = (rules : AdmittedRules) × StandsFor rules compiled

-- no family has more rules
abbrev pub HasRoom : Compiled → ℕ → Type 0
HasRoom compiled room =
    (rules : Family → List Listed) → StandsForLists rules compiled → (family : Family) → length (rules family) ≤ room

-- packets can be walked by them
pub record IsReady (compiled : Compiled) (capacity : ℕ) : Type 0 where
  pub sound : IsSound compiled
  pub room : HasRoom compiled capacity

-- compiled of the rules that are admitted of these routes, which are their own
pub record IsCompiled (held : Held) (compiled : Compiled) : Type 0 where
  pub stands : StandsFor (admitted_rules held) compiled
  pub own : AreOwn (admitted_in held)

-- they stand for lists of which that of the packet's family is this one, and these are its actions
pub record WalksWith (view : Viewed) (rules : List Listed) (compiled : Compiled) (actions : List (List (List ℕ))) : Type 0 where
  pub lists : Family → List Listed
  pub stands : StandsForLists lists compiled
  pub rules_are : lists view.family ≡ rules
  pub actions_are : actions ≡ actions_of rules
