-- Equality of lists of actions as `==` has it: equal octets, one action after the other.
use Rattle.std.specs.{Prelude.{◌≡◌, ℕ, Bool, List, nat_eq}, Bool.{Decides}}
use Rattle.std.specs.Cmp.{IsEquivalence, unsigned_Decides, decided, Lexicographic.{pointwise, pointwise_decides}}

abbrev pub same_actions : List (List ℕ) → List (List ℕ) → Bool
same_actions = pointwise (pointwise nat_eq)

-- lists are equal exactly where they are the same
abbrev pub OnlySame : Type 0
OnlySame = (a b : List (List ℕ)) → Decides (same_actions a b) (a ≡ b)

pub same_actions_decides : OnlySame
same_actions_decides = pointwise_decides (pointwise_decides unsigned_Decides)

pub same_actions_law : IsEquivalence same_actions
same_actions_law = decided same_actions same_actions_decides
