-- What the actions of a field are, whatever order its communities stand in.
use Rattle.std.specs.{Prelude.{◌≡◌, ◌↔◌, ℕ, List, Some, Contains}, List.Sorted.{IsStrictlySortedBy}, Cmp.Lexicographic.{slice_cmp}, Ordering.{nat_cmp}}
use Rattle.fs_actions.specs.{Community.{normal_form}, Actions.{communities}}

-- a listed community stands in the field, and this is its normal form
pub record IsListed (octets action : List ℕ) : Type 0 where
  pub community : List ℕ
  pub stands : Contains (communities octets) community
  pub normal : normal_form community ≡ Some action

-- exactly the listed communities of the field in normal form, and by rising octets: so each of them once
pub record AreListed (octets : List ℕ) (actions : List (List ℕ)) : Type 0 where
  pub exact : (action : List ℕ) → Contains actions action ↔ IsListed octets action
  pub rising : IsStrictlySortedBy (slice_cmp nat_cmp) actions
