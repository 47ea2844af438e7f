-- Lists in the order of their keys, and those of one key put anew.
use Rattle.fs_changes.proofs.Words.{Bool, List, Option, Some, None, [], ap, ap₂, cond, ◌&&◌, false, true, true≢false, refl, sym, ◌++◌, ◌∙◌, ◌∷◌, ◌≡◌}
use Rattle.fs_changes.proofs.Words.{append_assoc, append-nil, filter-append, filter, is_eq, is_gt, is_le, is_lt, Ordering, Less, Equal, Greater}

-- how a key stands to one, as in an order
pub record IsOrder {K : Type 0} (place : K → K → Ordering) : Type 0 where
  pub less : (t s : K) → place t s ≡ Less → place s t ≡ Greater
  pub greater : (t s : K) → place t s ≡ Greater → place s t ≡ Less
  pub equal : (t s : K) → place t s ≡ Equal → s ≡ t
  pub onward : (t s u : K) → place t s ≡ Less → place u t ≡ Less → place u s ≡ Less

-- what passes a test passes another, too
abbrev pub Within : {X : Type 0} → (p q : X → Bool) → Type 0
Within {X} p q = (x : X) → p x ≡ true → q x ≡ true

abbrev pub Without : {X : Type 0} → (p q : X → Bool) → Type 0
Without {X} p q = (x : X) → p x ≡ true → q x ≡ false

pub kept_all : {X : Type 0} (p q : X → Bool) (xs : List X) → Within p q → filter q (filter p xs) ≡ filter p xs
kept_all p q [] h = refl
kept_all {X} p q (x ∷ xs) h = at (p x) refl (kept_all p q xs h) where
  at : (b : Bool) → p x ≡ b → filter q (filter p xs) ≡ filter p xs
      → filter q (cond b (x ∷ filter p xs) (filter p xs)) ≡ cond b (x ∷ filter p xs) (filter p xs)
  at true e ih = ap (λ c. cond c (x ∷ filter q (filter p xs)) (filter q (filter p xs))) (h x e) ∙ ap (λ ys. x ∷ ys) ih
  at false e ih = ih

pub kept_none : {X : Type 0} (p q : X → Bool) (xs : List X) → Without p q → filter q (filter p xs) ≡ []
kept_none p q [] h = refl
kept_none {X} p q (x ∷ xs) h = at (p x) refl (kept_none p q xs h) where
  at : (b : Bool) → p x ≡ b → filter q (filter p xs) ≡ []
      → filter q (cond b (x ∷ filter p xs) (filter p xs)) ≡ []
  at true e ih = ap (λ c. cond c (x ∷ filter q (filter p xs)) (filter q (filter p xs))) (h x e) ∙ ih
  at false e ih = ih

pub kept_both : {X : Type 0} (p q : X → Bool) (xs : List X) → filter q (filter p xs) ≡ filter (λ x. p x && q x) xs
kept_both p q [] = refl
kept_both {X} p q (x ∷ xs) = at (p x) (q x) refl (kept_both p q xs) where
  at : (b c : Bool) → q x ≡ c → filter q (filter p xs) ≡ filter (λ y. p y && q y) xs
      → filter q (cond b (x ∷ filter p xs) (filter p xs)) ≡ cond (b && c) (x ∷ filter (λ y. p y && q y) xs) (filter (λ y. p y && q y) xs)
  at true true e ih = ap (λ a. cond a (x ∷ filter q (filter p xs)) (filter q (filter p xs))) e ∙ ap (λ ys. x ∷ ys) ih
  at true false e ih = ap (λ a. cond a (x ∷ filter q (filter p xs)) (filter q (filter p xs))) e ∙ ih
  at false c e ih = ih

pub same_test : {X : Type 0} (p q : X → Bool) (xs : List X) → ((x : X) → p x ≡ q x) → filter p xs ≡ filter q xs
same_test p q [] h = refl
same_test {X} p q (x ∷ xs) h = ap₂ (λ b ys. cond b (x ∷ ys) ys) (h x) (same_test p q xs h)

and_turned : (b c : Bool) → (b && c) ≡ (c && b)
and_turned true true = refl
and_turned true false = refl
and_turned false true = refl
and_turned false false = refl

pub kept_turned : {X : Type 0} (p q : X → Bool) (xs : List X) → filter q (filter p xs) ≡ filter p (filter q xs)
kept_turned p q xs = kept_both p q xs ∙ same_test (λ x. p x && q x) (λ x. q x && p x) xs (λ x. and_turned (p x) (q x)) ∙ sym (kept_both q p xs)

pub less_is : (o : Ordering) → is_lt o ≡ true → o ≡ Less
less_is Less h = refl
less_is Equal h = absurd (true≢false (sym h))
less_is Greater h = absurd (true≢false (sym h))

pub equal_is : (o : Ordering) → is_eq o ≡ true → o ≡ Equal
equal_is Less h = absurd (true≢false (sym h))
equal_is Equal h = refl
equal_is Greater h = absurd (true≢false (sym h))

pub greater_is : (o : Ordering) → is_gt o ≡ true → o ≡ Greater
greater_is Less h = absurd (true≢false (sym h))
greater_is Equal h = absurd (true≢false (sym h))
greater_is Greater h = refl

module _ {X K : Type 0} (place : K → K → Ordering) (key : X → K) where
  abbrev pub lower : K → X → Bool
  lower t x = is_lt (place t (key x))

  abbrev pub alike : K → X → Bool
  alike t x = is_eq (place t (key x))

  abbrev pub higher : K → X → Bool
  higher t x = is_gt (place t (key x))

  -- up to the last key, if there is one; and past it
  abbrev pub is_up : Option K → X → Bool
  is_up None x = false
  is_up (Some l) x = is_le (place l (key x))

  abbrev pub is_past : Option K → X → Bool
  is_past None x = true
  is_past (Some l) x = is_gt (place l (key x))

  abbrev pub IsLater : Option K → K → Type 0
  IsLater None t = Unit {0}
  IsLater (Some l) t = place l t ≡ Greater

  -- the list stands in parts
  abbrev pub Parted : K → List X → Type 0
  Parted t xs = filter (lower t) xs ++ (filter (alike t) xs ++ filter (higher t) xs) ≡ xs

  -- between the last key and the next
  abbrev pub between : Option K → K → List X → List X
  between l t xs = filter (lower t) (filter (is_past l) xs)

  -- the new list up to the last key, and the old one past it
  abbrev pub reached : Option K → (old new : List X) → List X
  reached l old new = filter (is_up l) new ++ filter (is_past l) old

module _ {X K : Type 0} (place : K → K → Ordering) (key : X → K) (order : IsOrder place) where
  pub up_lower : (l : Option K) (t : K) → IsLater place key l t → (x : X) → is_up place key l x ≡ true → place t (key x) ≡ Less
  up_lower None t h x e = absurd (true≢false (sym e))
  up_lower (Some l) t h x e = at (place l (key x)) refl e where
    at : (o : Ordering) → place l (key x) ≡ o → is_le o ≡ true → place t (key x) ≡ Less
    at Less f e = order.onward l (key x) t f (order.greater l t h)
    at Equal f e = ap (place t) (order.equal l (key x) f) ∙ order.greater l t h
    at Greater f e = absurd (true≢false (sym e))

  -- what is past a key that is past another is past that
  pub past_onward : (l : Option K) (t : K) → IsLater place key l t → (s : K) → place t s ≡ Greater → IsLater place key l s
  past_onward None t h s e = tt
  past_onward (Some l) t h s e = order.less s l (order.onward t l s (order.greater l t h) (order.greater t s e))

  pub later_past : (l : Option K) (x : X) → IsLater place key l (key x) → is_past place key l x ≡ true
  later_past None x h = refl
  later_past (Some l) x h = ap is_gt h

  pub past_later : (l : Option K) (x : X) → is_past place key l x ≡ true → IsLater place key l (key x)
  past_later None x h = tt
  past_later (Some l) x h = greater_is (place l (key x)) h

  same_later : (l : Option K) (t s : K) → IsLater place key l t → place t s ≡ Equal → IsLater place key l s
  same_later None t s h e = tt
  same_later (Some l) t s h e = ap (place l) (order.equal t s e) ∙ h

  up_in : (l : Option K) (t : K) → IsLater place key l t → Within (is_up place key l) (lower place key t)
  up_in l t h x e = ap is_lt (up_lower l t h x e)

  up_not : (l : Option K) (t : K) → IsLater place key l t → Without (is_up place key l) (alike place key t)
  up_not l t h x e = ap is_eq (up_lower l t h x e)

  up_never : (l : Option K) (t : K) → IsLater place key l t → Without (is_up place key l) (higher place key t)
  up_never l t h x e = ap is_gt (up_lower l t h x e)

  alike_in : (l : Option K) (t : K) → IsLater place key l t → Within (alike place key t) (is_past place key l)
  alike_in l t h x e = later_past l x (same_later l t (key x) h (equal_is (place t (key x)) e))

  higher_in : (l : Option K) (t : K) → IsLater place key l t → Within (higher place key t) (is_past place key l)
  higher_in l t h x e = later_past l x (past_onward l t h (key x) (greater_is (place t (key x)) e))

  -- up to a key stands what is before it, and what has it
  pub up_parted : (t : K) (xs : List X) → Parted place key t xs
      → filter (is_up place key (Some t)) xs ≡ filter (lower place key t) xs ++ filter (alike place key t) xs
  up_parted t xs h =
      ap (filter up) (sym h) ∙ filter-append up (filter (lower place key t) xs) (filter (alike place key t) xs ++ filter (higher place key t) xs)
      ∙ ap₂ (λ a b. a ++ b) (kept_all (lower place key t) up xs (λ x e. ap is_le (less_is (place t (key x)) e)))
      (filter-append up (filter (alike place key t) xs) (filter (higher place key t) xs)
      ∙ ap₂ (λ a b. a ++ b) (kept_all (alike place key t) up xs (λ x e. ap is_le (equal_is (place t (key x)) e)))
      (kept_none (higher place key t) up xs (λ x e. ap is_le (greater_is (place t (key x)) e)))
      ∙ append-nil (filter (alike place key t) xs)) where
        up : X → Bool
        up = is_up place key (Some t)

  -- what is up to a key, and what is past it, are all
  pub up_and_past : (l : Option K) (xs : List X) → ((t : K) → Parted place key t xs) → filter (is_up place key l) xs ++ filter (is_past place key l) xs ≡ xs
  up_and_past None xs h = ap₂ (λ a b. a ++ b) (no_test xs) (all_test xs) where
    no_test : (ys : List X) → filter (is_up place key None) ys ≡ []
    no_test [] = refl
    no_test (y ∷ ys) = no_test ys

    all_test : (ys : List X) → filter (is_past place key None) ys ≡ ys
    all_test [] = refl
    all_test (y ∷ ys) = ap (λ zs. y ∷ zs) (all_test ys)
  up_and_past (Some l) xs h =
      ap (λ a. a ++ filter (higher place key l) xs) (up_parted l xs (h l))
      ∙ append_assoc (filter (lower place key l) xs) (filter (alike place key l) xs) (filter (higher place key l) xs) ∙ h l

  -- before the next key stands what is up to the last one, and what is between place key them
  pub before_next : (l : Option K) (t : K) (xs : List X) → IsLater place key l t → ((s : K) → Parted place key s xs)
      → filter (lower place key t) xs ≡ filter (is_up place key l) xs ++ between place key l t xs
  before_next l t xs h p =
      ap (filter (lower place key t)) (sym (up_and_past l xs p))
      ∙ filter-append (lower place key t) (filter (is_up place key l) xs) (filter (is_past place key l) xs)
      ∙ ap (λ a. a ++ between place key l t xs) (kept_all (is_up place key l) (lower place key t) xs (up_in l t h))

  -- past the last key stands what is between place key it and the next, what has that, and what is past that
  past_parted : (l : Option K) (t : K) (xs : List X) → IsLater place key l t → Parted place key t xs
      → filter (is_past place key l) xs ≡ between place key l t xs ++ (filter (alike place key t) xs ++ filter (higher place key t) xs)
  past_parted l t xs h p =
      ap (filter (is_past place key l)) (sym p)
      ∙ filter-append (is_past place key l) (filter (lower place key t) xs) (filter (alike place key t) xs ++ filter (higher place key t) xs)
      ∙ ap₂ (λ a b. a ++ b) (kept_turned (lower place key t) (is_past place key l) xs)
      (filter-append (is_past place key l) (filter (alike place key t) xs) (filter (higher place key t) xs)
      ∙ ap₂ (λ a b. a ++ b) (kept_all (alike place key t) (is_past place key l) xs (alike_in l t h))
      (kept_all (higher place key t) (is_past place key l) xs (higher_in l t h)))

  -- Where both lists are the same between place key the last key and the next, what has been reached place key stands in the parts of both.
  pub lower_reached : (l : Option K) (t : K) (old new : List X) → IsLater place key l t → ((s : K) → Parted place key s new)
      → between place key l t old ≡ between place key l t new
      → filter (lower place key t) (reached place key l old new) ≡ filter (lower place key t) new
  lower_reached l t old new h p same =
      filter-append (lower place key t) (filter (is_up place key l) new) (filter (is_past place key l) old)
      ∙ ap₂ (λ a b. a ++ b) (kept_all (is_up place key l) (lower place key t) new (up_in l t h)) same ∙ sym (before_next l t new h p)

  pub alike_reached : (l : Option K) (t : K) (old new : List X) → IsLater place key l t
      → filter (alike place key t) (reached place key l old new) ≡ filter (alike place key t) old
  alike_reached l t old new h =
      filter-append (alike place key t) (filter (is_up place key l) new) (filter (is_past place key l) old)
      ∙ ap₂ (λ a b. a ++ b) (kept_none (is_up place key l) (alike place key t) new (up_not l t h))
      (kept_turned (is_past place key l) (alike place key t) old ∙ kept_all (alike place key t) (is_past place key l) old (alike_in l t h))

  pub higher_reached : (l : Option K) (t : K) (old new : List X) → IsLater place key l t
      → filter (higher place key t) (reached place key l old new) ≡ filter (higher place key t) old
  higher_reached l t old new h =
      filter-append (higher place key t) (filter (is_up place key l) new) (filter (is_past place key l) old)
      ∙ ap₂ (λ a b. a ++ b) (kept_none (is_up place key l) (higher place key t) new (up_never l t h))
      (kept_turned (is_past place key l) (higher place key t) old ∙ kept_all (higher place key t) (is_past place key l) old (higher_in l t h))

  pub parted_reached : (l : Option K) (t : K) (old new : List X) → IsLater place key l t → Parted place key t old → ((s : K) → Parted place key s new)
      → between place key l t old ≡ between place key l t new → Parted place key t (reached place key l old new)
  parted_reached l t old new h q p same =
      ap₂ (λ a b. a ++ b) (lower_reached l t old new h p same
      ∙ before_next l t new h p) (ap₂ (λ a b. a ++ b) (alike_reached l t old new h) (higher_reached l t old new h))
      ∙ append_assoc (filter (is_up place key l) new) (between place key l t new) (filter (alike place key t) old ++ filter (higher place key t) old)
      ∙ ap (λ a. filter (is_up place key l) new ++ a) (ap (λ b. b ++ (filter (alike place key t) old ++ filter (higher place key t) old)) (sym same)
      ∙ sym (past_parted l t old h q))

  -- With those of the next key anew, that key has been reached place key.
  pub reached_next : (l : Option K) (t : K) (old new : List X) → IsLater place key l t → ((s : K) → Parted place key s new)
      → between place key l t old ≡ between place key l t new
      → filter (lower place key t) (reached place key l old new)
      ++ (filter (alike place key t) new ++ filter (higher place key t) (reached place key l old new)) ≡ reached place key (Some t) old new
  reached_next l t old new h p same =
      ap₂ (λ a b. a ++ b) (lower_reached l t old new h p same) (ap (λ b. filter (alike place key t) new ++ b) (higher_reached l t old new h))
      ∙ sym (append_assoc (filter (lower place key t) new) (filter (alike place key t) new) (filter (higher place key t) old))
      ∙ ap (λ a. a ++ filter (higher place key t) old) (sym (up_parted t new (p t)))

  pub reached_last : (l : Option K) (old new : List X) → ((s : K) → Parted place key s new)
      → filter (is_past place key l) old ≡ filter (is_past place key l) new → reached place key l old new ≡ new
  reached_last l old new p same = ap (λ a. filter (is_up place key l) new ++ a) same ∙ up_and_past l new p
