use Rattle.fs_ops.proofs.Words.{◌≡◌, ℕ, Bool, true, false, ◌&&◌, ◌||◌, if◌then◌else◌, List, [], ◌∷◌, refl, ap, sym, ◌∙◌, list_any, list_all, joins}
use Rattle.fs_ops.proofs.Words.{first_joins, onto_group, groups_of, holds}

-- That going through a list with one truth value answers whether some of its groups holds.

-- the answer where `all` says whether the pairs of the last group so far hold, and these pairs follow
abbrev pub answers : (ℕ × ℕ → Bool) → Bool → List (ℕ × ℕ) → Bool
answers test all [] = all
answers test all (pair ∷ pairs) = if joins pair.0 then answers test (all && test pair) pairs else (all || answers test (test pair) pairs)

-- the same by the groups: what stands before them belongs to the first
abbrev pub from_groups : (ℕ × ℕ → Bool) → Bool → List (List (ℕ × ℕ)) → Bool
from_groups test all [] = all
from_groups test all (group ∷ groups) = (all && list_all test group) || list_any (λ g. list_all test g) groups

one_group : (a b : Bool) → ((a && (b && true)) || false) ≡ (a && b)
one_group true true = refl
one_group true false = refl
one_group false b = refl

two_parts : (a b c d : Bool) → ((a && (b && c)) || d) ≡ (((a && b) && c) || d)
two_parts true b c d = refl
two_parts false b c d = refl

own_group : (a b d : Bool) → ((a && (b && true)) || d) ≡ ((a && b) || d)
own_group true true d = refl
own_group true false d = refl
own_group false b d = refl

onto : (test : ℕ × ℕ → Bool) (all : Bool) (pair : ℕ × ℕ) (groups : List (List (ℕ × ℕ)))
    → from_groups test all (onto_group pair groups) ≡ from_groups test (all && test pair) groups
onto test all pair [] = one_group all (test pair)
onto test all pair (group ∷ groups) = two_parts all (test pair) (list_all test group) (list_any (λ g. list_all test g) groups)

onto_any : (test : ℕ × ℕ → Bool) (pair : ℕ × ℕ) (groups : List (List (ℕ × ℕ)))
    → list_any (λ g. list_all test g) (onto_group pair groups) ≡ from_groups test true (onto_group pair groups)
onto_any test pair [] = refl
onto_any test pair (group ∷ groups) = refl

-- of a list that isn't empty some group holds, where it holds from its first pair on
any_from : (test : ℕ × ℕ → Bool) (pair : ℕ × ℕ) (pairs : List (ℕ × ℕ)) → holds test (pair ∷ pairs) ≡ from_groups test true (groups_of (pair ∷ pairs))
any_from test pair [] = refl
any_from test pair (next ∷ pairs) = by (joins next.0) where
  by : (b : Bool) → list_any (λ g. list_all test g) (if b then onto_group pair (groups_of (next ∷ pairs)) else (pair ∷ []) ∷ groups_of (next ∷ pairs))
      ≡ from_groups test true (if b then onto_group pair (groups_of (next ∷ pairs)) else (pair ∷ []) ∷ groups_of (next ∷ pairs))
  by true = onto_any test pair (groups_of (next ∷ pairs))
  by false = refl

from_answers : (test : ℕ × ℕ → Bool) (all : Bool) (pair : ℕ × ℕ) (pairs : List (ℕ × ℕ))
    → from_groups test all (groups_of (pair ∷ pairs)) ≡ answers test (all && test pair) pairs
from_answers test all pair [] = one_group all (test pair)
from_answers test all pair (next ∷ pairs) = by (joins next.0) (λ b. from_answers test b next pairs) where
  by : (b : Bool) → ((c : Bool) → from_groups test c (groups_of (next ∷ pairs)) ≡ answers test (c && test next) pairs)
      → from_groups test all (if b then onto_group pair (groups_of (next ∷ pairs)) else (pair ∷ []) ∷ groups_of (next ∷ pairs))
      ≡ (if b then answers test ((all && test pair) && test next) pairs else ((all && test pair) || answers test (test next) pairs))
  by true more = onto test all pair (groups_of (next ∷ pairs)) ∙ more (all && test pair)
  by false more =
      own_group all (test pair) (list_any (λ g. list_all test g) (groups_of (next ∷ pairs)))
      ∙ ap (λ (b : Bool). (all && test pair) || b) (any_from test next pairs ∙ more true)

-- at the start nothing stands before the first pair, which joins none
pub answers_all : (test : ℕ × ℕ → Bool) (pairs : List (ℕ × ℕ)) → first_joins pairs ≡ false → answers test false pairs ≡ holds test pairs
answers_all test [] first = refl
answers_all test (pair ∷ pairs) first =
    ap (λ (b : Bool). if b then answers test false pairs else answers test (test pair) pairs) first
    ∙ sym (any_from test pair pairs ∙ from_answers test true pair pairs)
