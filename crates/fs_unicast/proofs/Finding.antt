use Rattle.fs_unicast.proofs.Words.{◌≡◌, refl, sym, ap, subst, ◌∙◌, Bool, true, false, true≢false, cond, ◌&&◌, List, [], ◌∷◌, ◌++◌, map, filter, find}
use Rattle.fs_unicast.proofs.Words.{option_map, slice_get, Option, Some, None, Ordering, Less, MatchOption, AllByRecursion, list_any, last_or}
use Rattle.fs_unicast.proofs.Words.{IsStrictlySortedBy, sorted_head, sorted_tail, same_Some, and_both, and_first, each, each_weaker, each_of_map}
use Rattle.fs_unicast.proofs.Words.{none_each, find_last, later}

-- The first and the last element of a list that pass a test.

-- what an iterator's next call shows is the head of what is left
pub shows_first : {A X : Type 0} (shows : A → X) (s t : List X) (r : Option A) → MatchOption r ((s ≡ []) × (t ≡ [])) (λ x. s ≡ shows x ∷ t)
    → option_map shows r ≡ slice_get s 0
shows_first shows s t None h = sym (ap (λ xs. slice_get xs 0) h.0)
shows_first shows s t (Some x) h = sym (ap (λ xs. slice_get xs 0) h)

last_appended : {X : Type 0} (o : Option X) (x : X) (xs : List X) → last_or o (xs ++ x ∷ []) ≡ Some x
last_appended o x [] = refl
last_appended o x (y ∷ ys) = last_appended (Some y) x ys

-- what its last call shows is the end of it
pub shows_last : {A X : Type 0} (shows : A → X) (s t : List X) (r : Option A) → MatchOption r ((s ≡ []) × (t ≡ [])) (λ x. s ≡ t ++ shows x ∷ [])
    → option_map shows r ≡ last_or None s
shows_last shows s t None h = sym (ap (last_or None) h.0)
shows_last shows s t (Some x) h = sym (ap (last_or None) h ∙ last_appended None (shows x) t)

pub first_filtered : {X : Type 0} (test : X → Bool) (xs : List X) → slice_get (filter test xs) 0 ≡ find test xs
first_filtered test [] = refl
first_filtered test (x ∷ xs) = at (test x) (first_filtered test xs) where
  at : (b : Bool) → slice_get (filter test xs) 0 ≡ find test xs → slice_get (cond b (x ∷ filter test xs) (filter test xs)) 0 ≡ cond b (Some x) (find test xs)
  at true ih = refl
  at false ih = ih

pub last_filtered : {X : Type 0} (test : X → Bool) (o : Option X) (xs : List X) → last_or o (filter test xs) ≡ later (find_last test xs) o
last_filtered test o [] = refl
last_filtered {X} test o (x ∷ xs) = at (test x) (last_filtered test o xs) (last_filtered test (Some x) xs) where
  over : (p : Option X) (q : Option X) → later p (Some x) ≡ later (later p (Some x)) q
  over None q = refl
  over (Some y) q = refl

  under : (p : Option X) (q : Option X) → later p q ≡ later (later p None) q
  under None q = refl
  under (Some y) q = refl

  at : (b : Bool) → last_or o (filter test xs) ≡ later (find_last test xs) o → last_or (Some x) (filter test xs) ≡ later (find_last test xs) (Some x)
      → last_or o (cond b (x ∷ filter test xs) (filter test xs)) ≡ later (later (find_last test xs) (cond b (Some x) None)) o
  at true ih k = k ∙ over (find_last test xs) o
  at false ih k = ih ∙ under (find_last test xs) o

-- what holds of each that passes holds of the one that is found
found_both : {X : Type 0} (test : X → Bool) (P : X → Type 0) (xs : List X) (x : X) → find test xs ≡ Some x → AllByRecursion (λ y. test y ≡ true → P y) xs → P x
found_both test P [] x h all = cc
found_both test P (y ∷ ys) x h all = at (test y) refl (λ k. found_both test P ys x k all.1) h where
  at : (b : Bool) → test y ≡ b → (find test ys ≡ Some x → P x) → cond b (Some y) (find test ys) ≡ Some x → P x
  at true e ih k = subst P (same_Some y x k) (all.0 e)
  at false e ih k = ih k

pub found_each : {X : Type 0} (test : X → Bool) (P : X → Type 0) (xs : List X) (x : X) → find test xs ≡ Some x → AllByRecursion P xs → P x
found_each test P xs x h all = found_both test P xs x h (each_weaker P (λ y. test y ≡ true → P y) (λ y p _. p) xs all)

pub found_passes : {X : Type 0} (test : X → Bool) (xs : List X) (x : X) → find test xs ≡ Some x → test x ≡ true
found_passes test xs x h = found_both test (λ y. test y ≡ true) xs x h (each (λ y. test y ≡ true → test y ≡ true) (λ y e. e) xs)

pub none_found : {X : Type 0} (test : X → Bool) (xs : List X) → find test xs ≡ None → AllByRecursion (λ x. test x ≡ false) xs
none_found test [] h = tt
none_found test (y ∷ ys) h = at (test y) refl (none_found test ys) h where
  at : (b : Bool) → test y ≡ b → (find test ys ≡ None → AllByRecursion (λ x. test x ≡ false) ys) → cond b (Some y) (find test ys) ≡ None
      → (test y ≡ false) × AllByRecursion (λ x. test x ≡ false) ys
  at true e ih k = cc
  at false e ih k = (e, ih k)

pub find_none : {X : Type 0} (test : X → Bool) (xs : List X) → AllByRecursion (λ x. test x ≡ false) xs → find test xs ≡ None
find_none test [] h = refl
find_none test (y ∷ ys) h = at (test y) h.0 (find_none test ys h.1) where
  at : (b : Bool) → b ≡ false → find test ys ≡ None → cond b (Some y) (find test ys) ≡ None
  at true e ih = absurd (true≢false e)
  at false e ih = ih

-- the first that passes, where it passes a narrower test too
pub find_narrower : {X : Type 0} (test narrow : X → Bool) → ((x : X) → narrow x ≡ true → test x ≡ true) → (xs : List X) (x : X)
    → find test xs ≡ Some x → narrow x ≡ true → find narrow xs ≡ Some x
find_narrower test narrow f [] x h k = cc
find_narrower {X} test narrow f (y ∷ ys) x h k = at (test y) (narrow y) (f y) refl (λ l. find_narrower test narrow f ys x l k) h where
  at : (b c : Bool) → (c ≡ true → b ≡ true) → narrow y ≡ c → (find test ys ≡ Some x → find narrow ys ≡ Some x)
      → cond b (Some y) (find test ys) ≡ Some x → cond c (Some y) (find narrow ys) ≡ Some x
  at true true g e ih l = l
  at true false g e ih l = absurd (true≢false (sym (ap narrow (same_Some y x l) ∙ k) ∙ e))
  at false true g e ih l = absurd (true≢false (sym (g refl)))
  at false false g e ih l = ih l

pub find_both : {X : Type 0} (test more : X → Bool) (xs : List X) (x : X) → find test xs ≡ Some x → more x ≡ true → find (λ y. test y && more y) xs ≡ Some x
find_both test more xs x h k =
    find_narrower test (λ y. test y && more y) (λ y e. and_first (test y) (more y) e) xs x h (and_both (test x) (more x) (found_passes test xs x h) k)

true_from : (b : Bool) → (b ≡ false → ⊥) → b ≡ true
true_from true h = refl
true_from false h = absurd (h refl)

pub any_found : {X : Type 0} (test p : X → Bool) (xs : List X) (x : X) → find test xs ≡ Some x → p x ≡ true → list_any p xs ≡ true
any_found test p xs x h k = true_from (list_any p xs) (λ e. true≢false (sym k ∙ found_each test (λ y. p y ≡ false) xs x h (none_each p xs e)))

module _ {K X : Type 0} (cmp : K → K → Ordering) (key : X → K) where
  -- In order, each that passes is the first one or after it.
  pub after_found : (test : X → Bool) (P : X → Type 0) (xs : List X) → IsStrictlySortedBy cmp (map key xs) → (x : X) → find test xs ≡ Some x
      → P x → ((y : X) → cmp (key x) (key y) ≡ Less → P y) → AllByRecursion (λ y. test y ≡ true → P y) xs
  after_found test P [] sorted x h here more = tt
  after_found test P (y ∷ ys) sorted x h here more =
      at (test y) refl (λ k. after_found test P ys (sorted_tail cmp (key y) (map key ys) sorted) x k here more) h where
        at : (b : Bool) → test y ≡ b → (find test ys ≡ Some x → AllByRecursion (λ y. test y ≡ true → P y) ys) → cond b (Some y) (find test ys) ≡ Some x
            → (test y ≡ true → P y) × AllByRecursion (λ y. test y ≡ true → P y) ys
        at true e ih k = (
          (λ _. subst P (sym (same_Some y x k)) here),
          each_weaker (λ z. cmp (key y) (key z) ≡ Less) (λ z. test z ≡ true
              → P z) (λ z less _. more z (subst (λ a. cmp (key a) (key z) ≡ Less) (same_Some y x k) less)) ys
              (each_of_map key (λ k. cmp (key y) k ≡ Less) ys (sorted_head cmp (key y) (map key ys) sorted)),
        )
        at false e ih k = ((λ t. absurd (true≢false (sym t ∙ e))), ih k)

-- what holds of each that passes holds of the last one that is found
last_both : {X : Type 0} (test : X → Bool) (P : X → Type 0) (xs : List X) (x : X) → find_last test xs ≡ Some x
    → AllByRecursion (λ y. test y ≡ true → P y) xs → P x
last_both test P [] x h all = cc
last_both {X} test P (y ∷ ys) x h all = at (find_last test ys) (test y) refl (λ k. last_both test P ys x k all.1) h where
  at : (o : Option X) (b : Bool) → test y ≡ b → (o ≡ Some x → P x) → later o (cond b (Some y) None) ≡ Some x → P x
  at (Some z) b e ih k = ih k
  at None true e ih k = subst P (same_Some y x k) (all.0 e)
  at None false e ih k = cc

pub last_each : {X : Type 0} (test : X → Bool) (P : X → Type 0) (xs : List X) (x : X) → find_last test xs ≡ Some x → AllByRecursion P xs → P x
last_each test P xs x h all = last_both test P xs x h (each_weaker P (λ y. test y ≡ true → P y) (λ y p _. p) xs all)

pub last_passes : {X : Type 0} (test : X → Bool) (xs : List X) (x : X) → find_last test xs ≡ Some x → test x ≡ true
last_passes test xs x h = last_both test (λ y. test y ≡ true) xs x h (each (λ y. test y ≡ true → test y ≡ true) (λ y e. e) xs)

pub no_last : {X : Type 0} (test : X → Bool) (xs : List X) → find_last test xs ≡ None → AllByRecursion (λ x. test x ≡ false) xs
no_last test [] h = tt
no_last {X} test (y ∷ ys) h = at (find_last test ys) (test y) refl (no_last test ys) h where
  at : (o : Option X) (b : Bool) → test y ≡ b → (o ≡ None → AllByRecursion (λ x. test x ≡ false) ys) → later o (cond b (Some y) None) ≡ None
      → (test y ≡ false) × AllByRecursion (λ x. test x ≡ false) ys
  at (Some z) b e ih k = cc
  at None true e ih k = cc
  at None false e ih k = (e, ih refl)

module _ {K X : Type 0} (cmp : K → K → Ordering) (key : X → K) where
  -- In order, each that passes is the last one or before it.
  pub before_last : (test : X → Bool) (P : X → Type 0) (xs : List X) → IsStrictlySortedBy cmp (map key xs) → (x : X) → find_last test xs ≡ Some x
      → P x → ((y : X) → cmp (key y) (key x) ≡ Less → P y) → AllByRecursion (λ y. test y ≡ true → P y) xs
  before_last test P [] sorted x h here more = tt
  before_last test P (y ∷ ys) sorted x h here more =
      at (find_last test ys) refl (test y) refl (λ k. before_last test P ys (sorted_tail cmp (key y) (map key ys) sorted) x k here more) h where
        first : find_last test ys ≡ Some x → P y
        first k = more y (last_each test (λ z. cmp (key y) (key z) ≡ Less) ys x k
            (each_of_map key (λ k. cmp (key y) k ≡ Less) ys (sorted_head cmp (key y) (map key ys) sorted)))

        none : find_last test ys ≡ None → AllByRecursion (λ y. test y ≡ true → P y) ys
        none k = each_weaker (λ z. test z ≡ false) (λ z. test z ≡ true → P z) (λ z no yes. absurd (true≢false (sym yes ∙ no))) ys (no_last test ys k)

        at : (o : Option X) → find_last test ys ≡ o → (b : Bool) → test y ≡ b
            → (find_last test ys ≡ Some x → AllByRecursion (λ y. test y ≡ true → P y) ys) → later o (cond b (Some y) None) ≡ Some x
            → (test y ≡ true → P y) × AllByRecursion (λ y. test y ≡ true → P y) ys
        at (Some z) f b e ih k = ((λ _. first (f ∙ k)), ih (f ∙ k))
        at None f true e ih k = ((λ _. subst P (sym (same_Some y x k)) here), none f)
        at None f false e ih k = cc
