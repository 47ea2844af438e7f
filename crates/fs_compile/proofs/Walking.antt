-- How the walk goes on from one matching rule to the next.
use Rattle.fs_compile.proofs.Words.{◌≡◌, ℕ, ◌+◌, ◌<◌, ◌≤◌, List, [], ◌∷◌, Bool, true, false, Option, Some, None, IfSome, if◌then◌else◌, length, drop}
use Rattle.fs_compile.proofs.Words.{get_or, refl, ap, ◌∙◌, arith, add-one, drop-cons, length-drop, if_true, if_false, Viewed, is_match, Listed}
use Rattle.fs_compile.proofs.Words.{first_from, goes_on, walk_from, WalksByNext, WalksOn, next_from}
use Rattle.std.proofs.lemmas.Grind.{common_steps}

heads : (x y : Listed) (xs ys : List Listed) → x ∷ xs ≡ y ∷ ys → (x ≡ y) × (xs ≡ ys)
heads x y xs ys e = (cc, cc)

from_place : (rules : List Listed) (place : ℕ) (d : Listed) → place < length rules → drop place rules ≡ get_or rules place d ∷ drop (place + 1) rules
from_place rules place d below = rw (drop-cons rules place d, add-one) refl

below_length : (rules : List Listed) (place : ℕ) (x : Listed) (xs : List Listed) → x ∷ xs ≡ drop place rules → place < length rules
below_length rules place x xs e = let size : length (x ∷ xs) ≡ length (drop place rules) = ap length e in grind (arith, common_steps)

parts : (rules : List Listed) (place : ℕ) (x d : Listed) (xs : List Listed) → x ∷ xs ≡ drop place rules
    → (x ≡ get_or rules place d) × (xs ≡ drop (place + 1) rules)
parts rules place x d xs e = heads x (get_or rules place d) xs (drop (place + 1) rules) (e ∙ from_place rules place d (below_length rules place x xs e))

matched : (view : Viewed) (rules : List Listed) (place : ℕ) (x : Listed) (xs : List Listed) → x ∷ xs ≡ drop place rules
    → WalksOn view rules (Some place) ((place + 1, x.actions) ∷ (if goes_on x.actions then walk_from (place + 1 + 1) view xs else []))
matched view rules place x xs e = λ d.
    ap (λ (r : Listed). (place + 1, r.actions) ∷ (if goes_on r.actions then walk_from (place + 1 + 1) view xs else [])) (parts rules place x d xs e).0
    ∙ ap (λ (more : List Listed). (place + 1, (get_or rules place d).actions) ∷ (if goes_on (get_or rules place d).actions
    then walk_from (place + 1 + 1) view more else [])) (parts rules place x d xs e).1
    ∙ ap (λ (n : ℕ). (place + 1, (get_or rules place d).actions) ∷ (if goes_on (get_or rules place d).actions
    then walk_from n view (drop (place + 1) rules) else [])) two where
      two : place + 1 + 1 ≡ place + 2
      two = omega arith

by_match : (view : Viewed) (rules : List Listed) (place : ℕ) (x : Listed) (xs : List Listed) (b : Bool) → x ∷ xs ≡ drop place rules
    → WalksOn view rules (first_from (place + 1) view xs) (walk_from (place + 1 + 1) view xs)
    → WalksOn view rules (if b then Some place else first_from (place + 1) view xs)
    (if b then (place + 1, x.actions) ∷ (if goes_on x.actions then walk_from (place + 1 + 1) view xs else []) else walk_from (place + 1 + 1) view xs)
by_match view rules place x xs true e later = matched view rules place x xs e
by_match view rules place x xs false e later = later

seek : (view : Viewed) (rules : List Listed) (xs : List Listed) (place : ℕ) → xs ≡ drop place rules
    → WalksOn view rules (first_from place view xs) (walk_from (place + 1) view xs)
seek view rules [] place e = refl
seek view rules (x ∷ xs) place e = by_match view rules place x xs (is_match x.rule view) e (seek view rules xs (place + 1) (parts rules place x x xs e).1)

-- the law of the walk
pub walks_by_next_law : WalksByNext
walks_by_next_law view rules n = seek view rules (drop n rules) n refl

-- what is found is one of the rules, and none of those before

found_within : (view : Viewed) (rules : List Listed) (place : ℕ) (found : Option ℕ) → found ≡ first_from place view rules
    → IfSome found (λ k. (place ≤ k) × (k < place + length rules))
found_within view rules place None e = tt
found_within view [] place (Some k) e = absurd cc
found_within view (rule ∷ rules) place (Some k) e = by (is_match rule.rule view) refl (found_within view rules (place + 1) (Some k))
  where
    by : (b : Bool) → is_match rule.rule view ≡ b
        → (Some k ≡ first_from (place + 1) view rules → (place + 1 ≤ k) × (k < place + 1 + length rules))
        → (place ≤ k) × (k < place + length (rule ∷ rules))
    by true m later =
        let same : Some k ≡ Some place = e ∙ if_true (is_match rule.rule view) _ _ m in
        let k_is : k ≡ place = cc in
        (omega (arith, k_is), omega (arith, k_is))
    by false m later =
        let rest : (place + 1 ≤ k) × (k < place + 1 + length rules) = later (e ∙ if_false (is_match rule.rule view) _ _ m) in
        (omega (arith, rest.0), omega (arith, rest.1))

pub next_inside : (view : Viewed) (rules : List Listed) (n : ℕ) (found : Option ℕ) → found ≡ next_from n view rules
    → IfSome found (λ k. (n ≤ k) × (k < length rules))
next_inside view rules n None e = tt
next_inside view rules n (Some k) e =
    let within : (n ≤ k) × (k < n + length (drop n rules)) = found_within view (drop n rules) n (Some k) e in
    (within.0, omega (arith, within.0, within.1, length-drop n rules))
