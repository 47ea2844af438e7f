-- Lists of actions in order, each once.
use Rattle.fs_actions.proofs.Words.{◌≡◌, ℕ, zero, suc, ◌+◌, ◌<◌, ◌≤◌, List, [], ◌∷◌, ◌++◌, length, take, drop, get_or, refl, sym, ap, ◌∙◌, arith}
use Rattle.fs_actions.proofs.Words.{add-one, Ordering, filter_map, Option, Some, Less, Equal, Greater, match_ordering, nat_cmp, ordering_index}
use Rattle.fs_actions.proofs.Words.{ordering_reverse, is_lt, AllByRecursion, AllWithin, IsStrictlySortedBy, IsNonDecreasingBy, nat_list_cmp_total}
use Rattle.fs_actions.proofs.Words.{tied_back, alike_right, cons_option, drop-cons, IsAction, normal_form, IsActions, with_action, with_actions}
use Rattle.std.{specs.Cmp.Lexicographic.{slice_cmp}, proofs.{lemmas.List.Sorted.{searchable_from_sorted}, Math.ListN.{drop_of_length-le}}}

abbrev pub by_octets : List ℕ → List ℕ → Ordering
by_octets = slice_cmp nat_cmp

pub no_actions : IsActions []
unfolding IsStrictlySortedBy
no_actions = record { each = tt; rising = tt }

pub with_step : (a b : List ℕ) (bs : List (List ℕ)) (r : Ordering) → by_octets a b ≡ r
    → with_action a (b ∷ bs) ≡ match_ordering r (a ∷ b ∷ bs) (b ∷ bs) (b ∷ with_action a bs)
with_step a b bs r e = ap (λ (o : Ordering). match_ordering o (a ∷ b ∷ bs) (b ∷ bs) (b ∷ with_action a bs)) e

pub reversed : (a b : List ℕ) (r : Ordering) → by_octets a b ≡ r → by_octets b a ≡ ordering_reverse r
reversed a b r e = nat_list_cmp_total.antisymm b a ∙ ap ordering_reverse e

each_at : (P : List ℕ → Type 0) (xs : List (List ℕ)) (i : ℕ) (d : List ℕ) → i < length xs → AllByRecursion P xs → P (get_or xs i d)
each_at P [] i d l h = absurd (omega arith)
each_at P (x ∷ xs) zero d l h = h.0
each_at P (x ∷ xs) (suc i) d l h = each_at P xs i d (omega arith) h.1

-- an action that is there
pub action_held : (a : List ℕ) (xs : List (List ℕ)) (i : ℕ) → i < length xs → IsStrictlySortedBy by_octets xs
    → ((d : List ℕ) → by_octets (get_or xs i d) a ≡ Equal) → with_action a xs ≡ xs
unfolding IsStrictlySortedBy
action_held a [] i l s h = absurd (omega arith)
action_held a (x ∷ xs) zero l s h = with_step a x xs Equal (tied_back nat_list_cmp_total x a (h []))
action_held a (x ∷ xs) (suc i) l s h =
    let above : by_octets x (get_or xs i []) ≡ Less = each_at (λ y. by_octets x y ≡ Less) xs i [] (omega arith) s.0 in
    let same : by_octets x (get_or xs i []) ≡ by_octets x a = alike_right nat_list_cmp_total (get_or xs i []) a x (h []) in
    with_step a x xs Greater (reversed x a Less (sym same ∙ above)) ∙ ap (λ (l : List (List ℕ)). x ∷ l) (action_held a xs i (omega arith) s.1 h)

-- an action that isn't there goes behind those below it
pub action_placed : (a : List ℕ) (xs : List (List ℕ)) (i : ℕ) → i ≤ length xs → AllWithin (λ y. by_octets y a ≡ Less) xs 0 i
    → AllWithin (λ y. by_octets y a ≡ Greater) xs i (length xs) → with_action a xs ≡ take i xs ++ a ∷ drop i xs
action_placed a [] zero l below above = refl
action_placed a [] (suc i) l below above = absurd (omega arith)
action_placed a (x ∷ xs) zero l below above = with_step a x xs Less (reversed x a Greater (above 0 [] (omega arith) (omega arith)))
action_placed a (x ∷ xs) (suc i) l below above =
    with_step a x xs Greater (reversed x a Less (below 0 [] (omega arith) (omega arith)))
    ∙ ap (λ (l : List (List ℕ)). x ∷ l)
    (action_placed a xs i (omega arith) (λ k d h g. below (suc k) d (omega arith) (omega arith))
    (λ k d h g. above (suc k) d (omega arith) (omega arith)))

pub each_with : (P : List ℕ → Type 0) (a : List ℕ) (xs : List (List ℕ)) → P a → AllByRecursion P xs → AllByRecursion P (with_action a xs)
each_with P a [] p h = (p, tt)
each_with P a (x ∷ xs) p h = at (by_octets a x) refl (each_with P a xs p h.1)
  where
    at : (r : Ordering) → by_octets a x ≡ r → AllByRecursion P (with_action a xs)
        → AllByRecursion P (match_ordering r (a ∷ x ∷ xs) (x ∷ xs) (x ∷ with_action a xs))
    at Less e rest = (p, h)
    at Equal e rest = h
    at Greater e rest = (h.0, rest)

below_all : (a x : List ℕ) (xs : List (List ℕ)) → by_octets a x ≡ Less → AllByRecursion (λ y. by_octets x y ≡ Less) xs
    → AllByRecursion (λ y. by_octets a y ≡ Less) xs
below_all a x [] e h = tt
below_all a x (y ∷ ys) e h = (nat_list_cmp_total.trans a x y e h.0, below_all a x ys e h.1)

pub rising_with : (a : List ℕ) (xs : List (List ℕ)) → IsStrictlySortedBy by_octets xs → IsStrictlySortedBy by_octets (with_action a xs)
unfolding IsStrictlySortedBy
rising_with a [] s = (tt, tt)
rising_with a (x ∷ xs) s = at (by_octets a x) refl (rising_with a xs s.1)
  where
    at : (r : Ordering) → by_octets a x ≡ r → IsStrictlySortedBy by_octets (with_action a xs)
        → IsStrictlySortedBy by_octets (match_ordering r (a ∷ x ∷ xs) (x ∷ xs) (x ∷ with_action a xs))
    at Less e rest = ((e, below_all a x xs e s.0), s)
    at Equal e rest = s
    at Greater e rest = (each_with (λ y. by_octets x y ≡ Less) a xs (reversed a x Greater e) s.0, rest)

pub actions_with : (a : List ℕ) (xs : List (List ℕ)) → IsAction a → IsActions xs → IsActions (with_action a xs)
actions_with a xs p h = record { each = each_with IsAction a xs p h.each; rising = rising_with a xs h.rising }

-- a list that rises can be searched
adjacent : (xs : List (List ℕ)) → IsStrictlySortedBy by_octets xs → (k : ℕ) (d : List ℕ) → k + 1 < length xs
    → by_octets (get_or xs k d) (get_or xs (k + 1) d) ≡ Less
unfolding IsStrictlySortedBy
adjacent [] s k d l = absurd (omega arith)
adjacent (x ∷ xs) s zero d l = each_at (λ y. by_octets x y ≡ Less) xs 0 d (omega arith) s.0
adjacent (x ∷ xs) s (suc k) d l = let e : suc k + 1 ≡ suc (k + 1) = omega arith in rw e (adjacent xs s.1 k d (omega arith))

pub searchable : (a : List ℕ) (xs : List (List ℕ)) → IsStrictlySortedBy by_octets xs → IsNonDecreasingBy (λ y. ordering_index (by_octets y a)) xs
searchable a xs s = searchable_from_sorted nat_list_cmp_total (λ (y : List ℕ). y) xs a
    (λ k d l h. ap is_lt (reversed (get_or xs k d) (get_or xs (k + 1) d) Less (adjacent xs s k d (omega arith))))

drop_cons : {A : Type 0} (xs : List A) (i : ℕ) (d : A) → i < length xs → drop i xs ≡ get_or xs i d ∷ drop (i + 1) xs
drop_cons xs i d l = rw add-one (drop-cons xs i d l)

-- the communities before the index were put into the list
pub record Gathered (communities : List (List ℕ)) (index : ℕ) (list : List (List ℕ)) : Type 0 where
  pub same : with_actions (filter_map normal_form (drop index communities)) list ≡ with_actions (filter_map normal_form communities) []
  pub actions : IsActions list

pub gathered_none : (communities : List (List ℕ)) → Gathered communities 0 []
gathered_none communities = record { same = refl; actions = no_actions }

pub gathered_all : (communities : List (List ℕ)) (index : ℕ) (list : List (List ℕ)) → length communities ≤ index → Gathered communities index list
    → list ≡ with_actions (filter_map normal_form communities) []
gathered_all communities index list l h =
    sym (ap (λ (rest : List (List ℕ)). with_actions (filter_map normal_form rest) list) (drop_of_length-le communities l)) ∙ h.same

gathered_step : (communities : List (List ℕ)) (index : ℕ) (list : List (List ℕ)) (d : List ℕ) (o : Option (List ℕ)) → index < length communities
    → normal_form (get_or communities index d) ≡ o
    → Gathered communities index list
    → with_actions (cons_option o (filter_map normal_form (drop (index + 1) communities))) list
    ≡ with_actions (filter_map normal_form communities) []
gathered_step communities index list d o l e h =
    sym (ap (λ (rest : List (List ℕ)). with_actions (filter_map normal_form rest) list) (drop_cons communities index d l)
    ∙ ap (λ (p : Option (List ℕ)). with_actions (cons_option p (filter_map normal_form (drop (index + 1) communities))) list) e) ∙ h.same

pub gathered_one : (communities : List (List ℕ)) (index : ℕ) (list : List (List ℕ)) (d action : List ℕ) → index < length communities
    → normal_form (get_or communities index d) ≡ Some action → IsAction action
    → Gathered communities index list → Gathered communities (index + 1) (with_action action list)
gathered_one communities index list d action l e p h =
    record { same = gathered_step communities index list d (Some action) l e h; actions = actions_with action list p h.actions }
