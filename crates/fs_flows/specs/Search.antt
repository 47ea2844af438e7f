-- Groups found by their destination, and what validating their routes anew does.
use Rattle.std.specs.Prelude.{◌≡◌, ℕ, ◌+◌, ◌≤◌, ◌⊎◌, Bool, true, Option, Some, None, List, [], ◌∷◌, map, length, MatchOption, if◌then◌else◌}
use Rattle.std.specs.{BTreeMap.{BTreeMap}, List.{list_any, AllByRecursion}, Ordering.{is_eq, is_lt, is_le}}
use Rattle.fs_base.specs.{declared.{config.Config.{Config}, prefix.Prefix.{Prefix}}, Prefix.{prefix_cmp}}
use Rattle.fs_unicast.specs.{Unicast.{Route, IsSwap}, declared.unicast.Swap.{Swap}}
use Rattle.fs_validate.specs.Laws.{is_related}
use Rattle.fs_flows.specs.{Changes.{Noted, StaysNoted, IsNotedAt}, Kept.{Kept}}
use Rattle.fs_flows.specs.Group.{AreRight, AreRightTo, IsMarked, IsRightAt, mended, retested_to, routes_of}
use Rattle.fs_flows.specs.{Table.{related_count}, Groups.{Entry}}

-- the groups whose destination passes are validated anew, as routes to it
abbrev pub touched : List Route → Config → (Prefix → Bool) → Entry → Entry
touched unicast config test e = if test e.0 then (e.0, map (retested_to unicast config e.0) e.1) else e

-- how many routes have a destination that passes
abbrev pub size : (Prefix → Bool) → List Entry → ℕ
size test [] = 0
size test (e ∷ es) = (if test e.0 then length e.1 else 0) + size test es

-- how far mending has come: the groups, what is noted and how many steps were taken
pub record Progress : Type 0 where
  pub groups : List Entry
  pub noted : Noted
  pub steps : ℕ

abbrev pub progress : List Entry → Noted → ℕ → Progress
progress groups noted steps = record { groups = groups; noted = noted; steps = steps }

module _ (unicast : List Route) (config : Config) where
  -- of these groups those are noted in which a validity changed
  abbrev pub Marks : (Prefix → Bool) → List Entry → Noted → Type 0
  Marks test old noted =
      AllByRecursion (λ e. test e.0 ≡ true → IsNotedAt noted e.0 ⊎ AreRightTo unicast config e.0 e.1) old

  -- where a group passes, its validities are right
  abbrev pub IsRightWhere : (Prefix → Bool) → Entry → Type 0
  IsRightWhere test e = test e.0 ≡ true → AreRightTo unicast config e.0 e.1

  -- those that pass are validated anew; where they are right already nothing is noted
  pub record Mends (test : Prefix → Bool) (old new : Progress) : Type 0 where
    pub entries : new.groups ≡ map (touched unicast config test) old.groups
    pub stays : StaysNoted old.noted new.noted
    pub marks : Marks test old.groups new.noted
    pub quiet : AllByRecursion (IsRightWhere test) old.groups → new.noted ≡ old.noted
    pub later : old.steps ≤ new.steps
    pub steps : new.steps ≤ old.steps + size test old.groups

abbrev pub GroupMap : Type 0
GroupMap = BTreeMap Prefix (List Kept)

-- of two maps
abbrev pub Mended : List Route → Config → (Prefix → Bool) → GroupMap → GroupMap → Noted → Noted → ℕ → ℕ → Type 0
Mended unicast config test old new noted more before after =
    Mends unicast config test (progress old.entries noted before) (progress new.entries more after)

-- the routes that are related to the prefix are validated anew, and where a validity changed that is noted: nothing where
-- each is right already
pub record MendsKept (p : Prefix) (unicast : List Route) (config : Config) (old new : List Kept) (noted more : Noted) (before after : ℕ) : Type 0 where
  pub kept : new ≡ map (mended p unicast config) old
  pub stays : StaysNoted noted more
  pub marked : AllByRecursion (IsMarked more p unicast config) old
  pub quiet : AllByRecursion (IsRightAt p unicast config) old → more ≡ noted
  pub later : before ≤ after
  pub steps : after ≤ before + related_count p (routes_of old)

-- the validities are right over the unicast routes from which the swap led to these
pub record WereRight (swap : Swap) (unicast : List Route) (config : Config) (kept : List Kept) : Type 0 where
  pub earlier : List Route
  pub swapped : IsSwap swap earlier unicast
  pub right : AreRight earlier config kept

-- a group's validities are right over the earlier unicast routes or over these
abbrev pub IsRightEither : (earlier unicast : List Route) → Config → Entry → Type 0
IsRightEither earlier unicast config e = AreRightTo earlier config e.0 e.1 ⊎ AreRightTo unicast config e.0 e.1

-- each group's are, where the swap led from the earlier ones to these
pub record AreRightSince (swap : Swap) (unicast : List Route) (config : Config) (groups : List Entry) : Type 0 where
  pub earlier : List Route
  pub swapped : IsSwap swap earlier unicast
  pub right : AllByRecursion (IsRightEither earlier unicast config) groups

-- before the next key, if there is one
abbrev pub is_before : Option Prefix → Prefix → Bool
is_before None q = true
is_before (Some n) q = is_lt (prefix_cmp q n)

-- the next key after `low`: the keys before it are those up to `low`
pub record IsNextAfter (groups : List Entry) (low : Prefix) (next : Option Prefix) : Type 0 where
  pub there : MatchOption next (Unit {0}) (λ n. list_any (λ e. is_eq (prefix_cmp n e.0)) groups ≡ true)
  pub from : MatchOption next (Unit {0}) (λ n. is_lt (prefix_cmp low n) ≡ true)
  pub before : AllByRecursion (λ e. is_before next e.0 ≡ is_le (prefix_cmp e.0 low)) groups

-- the next key after `low`, as far as those go that are related to the prefix
pub record IsNextRelated (groups : List Entry) (prefix low : Prefix) (next : Option Prefix) : Type 0 where
  pub there : MatchOption next (Unit {0}) (λ n. list_any (λ e. is_eq (prefix_cmp n e.0)) groups ≡ true)
  pub from : MatchOption next (Unit {0}) (λ n. is_lt (prefix_cmp low n) ≡ true)
  pub before : AllByRecursion (λ e. is_related prefix e.0 ≡ true → is_before next e.0 ≡ is_le (prefix_cmp e.0 low)) groups
