-- What the index of a family's rules stands for.
use Rattle.std.specs.{Prelude.{◌≡◌, ℕ, Bool, true, List, map}, List.{AllByRecursion, AllZip}}
use Rattle.fs_base.specs.declared.prefix.Family.{Family}
use Rattle.fs_rules.specs.Lent.{Listed}
use Rattle.fs_buckets.specs.{declared.Buckets.{Buckets}, Destinations.{spans_of, IsOfFamily}, Housed.{AreHoused}}
use Rattle.fs_ranges.specs.{declared.Fast.{Fast}, Fast.{StandsFor}}

-- the buckets of the rules' destinations, and the rules in order with their actions
pub record Indexed : Type 0 where
  pub buckets : Buckets
  pub rules : List Fast
  pub actions : List (List (List ℕ))

abbrev pub actions_of : List Listed → List (List (List ℕ))
actions_of rules = map (λ r. r.actions) rules

-- each stands for its rule
abbrev pub StandForEach : List Listed → List Fast → Type 0
StandForEach rules fasts = AllZip (λ r f. StandsFor r.rule f) rules fasts

-- the index stands for these rules of the family
pub record IsIndexOf (family : Family) (rules : List Listed) (index : Indexed) : Type 0 where
  pub stands : StandForEach rules index.rules
  pub housed : AreHoused (spans_of rules) index.buckets
  pub each : AllByRecursion (IsOfFamily family) rules
  pub actions_are : index.actions ≡ actions_of rules

-- Whatever holds of each rule with what it was compiled to holds still, but for these rules, which were compiled anew.
abbrev pub AreKept : (news rules all : List Listed) → (old new : List Fast) → Type 0
AreKept news rules all old new =
    (holds : Listed → Fast → Bool)
    → AllByRecursion (λ r. (fast : Fast) → holds r fast ≡ true) news
    → AllZip (λ r fast. holds r fast ≡ true) rules old
    → AllZip (λ r fast. holds r fast ≡ true) all new

-- the index with these rules put anew among the others
pub record IsMended (family : Family) (news rules all : List Listed) (old new : Indexed) : Type 0 where
  pub stands : IsIndexOf family all new
  pub kept : AreKept news rules all old.rules new.rules
