-- Rules of a family in order, and those of one destination put anew.
use Rattle.std.specs.{Prelude.{◌≡◌, ℕ, ◌≤◌, ◌++◌, Option, List, length, filter, take, drop, slice_range}, List.{AllByRecursion}, Ordering.{is_eq, is_gt, is_lt}}
use Rattle.fs_base.specs.declared.prefix.Family.{Family}
use Rattle.fs_rules.specs.Table.{AreOrdered, IsRuleOf}
use Rattle.fs_validate.specs.declared.route.FlowRoute.{FlowRoute}
use Rattle.fs_buckets.specs.Destinations.{place_by, span_of}
use Rattle.fs_changes.specs.Changes.{acts_of, changes, lines_text}

-- routes of rules of the family, each rule before those after it
pub record AreInOrder (family : Family) (routes : List FlowRoute) : Type 0 where
  pub own : AllByRecursion (IsRuleOf family) routes
  pub ordered : AreOrdered routes

-- the routes before a destination, those that have it, and those after it; the last one is that of no destination
abbrev pub before_it : Option (ℕ × ℕ) → List FlowRoute → List FlowRoute
before_it target routes = filter (λ r. is_lt (place_by target (span_of r.rule))) routes

abbrev pub at_it : Option (ℕ × ℕ) → List FlowRoute → List FlowRoute
at_it target routes = filter (λ r. is_eq (place_by target (span_of r.rule))) routes

abbrev pub after_it : Option (ℕ × ℕ) → List FlowRoute → List FlowRoute
after_it target routes = filter (λ r. is_gt (place_by target (span_of r.rule))) routes

-- the routes stand in these parts
abbrev pub AreInPlaces : Option (ℕ × ℕ) → List FlowRoute → Type 0
AreInPlaces target routes = before_it target routes ++ (at_it target routes ++ after_it target routes) ≡ routes

-- the routes that have the destination stand from here on before there
pub record HaveStretch (target : Option (ℕ × ℕ)) (routes : List FlowRoute) (from to : ℕ) : Type 0 where
  pub ordered : from ≤ to
  pub within : to ≤ length routes
  pub size : from ≡ length (before_it target routes)
  pub before : take from routes ≡ before_it target routes
  pub at : slice_range routes from to ≡ at_it target routes
  pub after : drop to routes ≡ after_it target routes

-- These stand in the place of the routes that have a destination, and the lines that lead to them are told.
pub record Puts (moment : ℕ) (target : Option (ℕ × ℕ)) (news old new : List FlowRoute) (before now : List ℕ) : Type 0 where
  pub put : new ≡ before_it target old ++ (news ++ after_it target old)
  pub told : now
      ≡ before ++ lines_text moment (changes (length (before_it target old)) (acts_of (at_it target old)) (acts_of news))
