-- The actions that a field of communities gives, and what they say together (RFC 8955 section 7).
use Rattle.std.specs.Prelude.{◌≡◌, ℕ, ◌/◌, ◌%◌, ◌==◌, Bool, ◌&&◌, List, [], ◌∷◌, length, filter_map, nat_lt, Option, Some, None}
use Rattle.std.specs.{Ordering.{match_ordering, nat_cmp}, declared.cmp.Ordering.TheVariants.{Less}}
use Rattle.std.specs.{List.{AllByRecursion, Sorted.{IsStrictlySortedBy}}, Cmp.Lexicographic.{slice_cmp}, Simd.{first_chunks}}
use Rattle.fs_actions.specs.Community.{IsAction, normal_form}

-- a field of communities is whole where it is a positive number of eight octets
abbrev pub are_communities : List ℕ → Bool
are_communities octets = nat_lt 0 (length octets) && (length octets % 8 == 0)

-- the communities of a field, in the order in which they stand
abbrev pub communities : List ℕ → List (List ℕ)
communities octets = first_chunks 8 (length octets / 8) octets

-- a list in order of the octets, with a community that it may have already
abbrev pub with_action : List ℕ → List (List ℕ) → List (List ℕ)
with_action action [] = action ∷ []
with_action action (first ∷ rest) = match_ordering (slice_cmp nat_cmp action first) (action ∷ first ∷ rest) (first ∷ rest) (first ∷ with_action action rest)

abbrev pub with_actions : List (List ℕ) → List (List ℕ) → List (List ℕ)
with_actions [] actions = actions
with_actions (first ∷ rest) actions = with_actions rest (with_action first actions)

-- the listed communities of a field in normal form, by rising octets and each once
abbrev pub actions_of : List ℕ → List (List ℕ)
actions_of octets = with_actions (filter_map normal_form (communities octets)) []

-- actions by rising octets, each once
pub record IsActions (actions : List (List ℕ)) : Type 0 where
  pub each : AllByRecursion IsAction actions
  pub rising : IsStrictlySortedBy (slice_cmp nat_cmp) actions

-- what the first action of the list with such a meaning says
abbrev pub first_of : {A : Type 0} → (List ℕ → Option A) → List (List ℕ) → Option A
first_of meaning [] = None
first_of meaning (action ∷ rest) = elim (meaning action) [ Some said ↦ Some said | None ↦ first_of meaning rest ]

-- an action can stand first, or behind one whose octets are below its own
abbrev pub IsAbove : Option (List ℕ) → List ℕ → Type 0
IsAbove None action = Unit {0}
IsAbove (Some last) action = slice_cmp nat_cmp last action ≡ Less
