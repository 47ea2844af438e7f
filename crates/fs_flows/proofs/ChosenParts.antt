-- Rivals stand in one part where the rules of each part are before those of all parts behind it.
use Rattle.fs_flows.proofs.Words.{◌≡◌, ◌+◌, refl, sym, ap, ap₂, ◌∙◌, false, not, ◌&&◌, ◌||◌, List, [], ◌∷◌, ◌++◌, None, ◌-◌, AllByRecursion, keys_of}
use Rattle.fs_flows.proofs.Words.{sorted_tail, Family, prefix_cmp, each_weaker, each_both, filter_on, filter-append, Kept, is_of_family, is_valid}
use Rattle.fs_flows.proofs.Words.{same_rule, beats, is_beaten, is_chosen, chosen, Entry, kept_in, IsTo, ArePlaced, AreInOrder, IsSound, chosen_in}
use Rattle.fs_flows.proofs.Words.{RuleBefore, AllBefore}
use Rattle.fs_flows.proofs.{KeyPlaces.{no_rival}, Apart.{not_same, not_same_back, group_before, each_back}}

beaten_front : (k : Kept) (xs ys : List Kept) → AllByRecursion (λ y. same_rule y.route k.route ≡ false) ys → is_beaten (xs ++ ys) k ≡ is_beaten xs k
beaten_front k [] [] h = refl
beaten_front k [] (y ∷ ys) h = no_rival k y (is_beaten ys k) h.0 ∙ beaten_front k [] ys h.1
beaten_front k (x ∷ xs) ys h = ap (λ b. (is_valid x.validity && beats x.route k.route) || b) (beaten_front k xs ys h)

beaten_back : (k : Kept) (xs ys : List Kept) → AllByRecursion (λ x. same_rule x.route k.route ≡ false) xs → is_beaten (xs ++ ys) k ≡ is_beaten ys k
beaten_back k [] ys h = refl
beaten_back k (x ∷ xs) ys h = no_rival k x (is_beaten (xs ++ ys) k) h.0 ∙ beaten_back k xs ys h.1

chosen_by : (family : Family) (k : Kept) (xs ys : List Kept) → is_beaten xs k ≡ is_beaten ys k → is_chosen family xs k ≡ is_chosen family ys k
chosen_by family k xs ys e = ap (λ b. is_of_family family k.route && (is_valid k.validity && not b)) e

-- what is true of each pair, seen from the second
each_behind : (xs ys : List Kept) → AllBefore xs ys → AllByRecursion (λ y. AllByRecursion (λ x. RuleBefore x y) xs) ys
each_behind [] ys h = all ys where
  all : (ys : List Kept) → AllByRecursion (λ y. Unit {0}) ys
  all [] = tt
  all (y ∷ ys) = (tt, all ys)
each_behind (x ∷ xs) ys h = each_both (RuleBefore x) (λ y. AllByRecursion (λ x. RuleBefore x y) xs)
    (λ y. AllByRecursion (λ x. RuleBefore x y) (x ∷ xs)) (λ y a b. (a, b)) ys h.0 (each_behind xs ys h.1)

-- rivals stand in one part where the rules of the first part are before those of the second
pub chosen-append : (family : Family) (xs ys : List Kept) → AllBefore xs ys → chosen family (xs ++ ys) ≡ chosen family xs ++ chosen family ys
chosen-append family xs ys h = filter-append (is_chosen family (xs ++ ys)) xs ys ∙ ap₂ (λ a b. a ++ b)
    (filter_on (is_chosen family (xs ++ ys)) (is_chosen family xs) xs
    (each_weaker (λ x. AllByRecursion (RuleBefore x) ys) (λ x. is_chosen family (xs ++ ys) x ≡ is_chosen family xs x)
    (λ x g. chosen_by family x (xs ++ ys) xs
    (beaten_front x xs ys (each_weaker (RuleBefore x) (λ y. same_rule y.route x.route ≡ false) (λ y b. not_same_back x y b) ys g))) xs h))
    (filter_on (is_chosen family (xs ++ ys)) (is_chosen family ys) ys
    (each_weaker (λ y. AllByRecursion (λ x. RuleBefore x y) xs) (λ y. is_chosen family (xs ++ ys) y ≡ is_chosen family ys y)
    (λ y g. chosen_by family y (xs ++ ys) ys
    (beaten_back y xs ys (each_weaker (λ x. RuleBefore x y) (λ x. same_rule x.route y.route ≡ false) (λ x b. not_same x y b) xs g))) ys
    (each_behind xs ys h)))

pub chosen_groups : (family f : Family) (es : List Entry) (rest : List Kept) → AreInOrder es → ArePlaced es → AllByRecursion (IsTo None) rest
    → AllByRecursion (IsSound f) (kept_in es rest) → chosen_in family es rest ≡ chosen family (kept_in es rest)
chosen_groups family f [] rest ordered placed bare sound = refl
chosen_groups family f (e ∷ es) rest ordered placed bare sound =
    ap (λ ks. chosen family e.1 ++ ks)
    (chosen_groups family f es rest (sorted_tail prefix_cmp e.0 (keys_of es) ordered) placed.1 bare (each_back (IsSound f) e.1 (kept_in es rest) sound))
    ∙ sym (chosen-append family e.1 (kept_in es rest) (group_before f e es rest ordered placed bare sound))
