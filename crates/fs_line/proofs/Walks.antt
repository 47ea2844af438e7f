-- What the actions of a walk say, rule by rule.
use Rattle.fs_line.proofs.Words.{◌≡◌, ℕ, ◌+◌, ◌-◌, ◌<◌, ◌≤◌, List, [], ◌∷◌, ◌++◌, length, take, drop, get_or, Option, Some, None, refl, sym, ◌∙◌, ap}
use Rattle.fs_line.proofs.Words.{arith, append_assoc, add-one, drop-cons, flat_map, filter_map, codes, common_steps, flat_map-append, first_of}
use Rattle.fs_line.proofs.Words.{limit_of, Walked, numbered, numbers_text, others_text, rate_text, rates_text, actions_walked, entries}
use Rattle.fs_line.proofs.Words.{numbers_walked}
use Rattle.std.proofs.lemmas.List.{append-nil, length-append, Elements.{filter_map-append}}
use Rattle.fs_actions.specs.declared.community.Rate.{Rate}

-- the actions of the rules walked
abbrev pub acting : List Walked → List (List ℕ)
acting walked = actions_walked (entries walked)

-- those from one place on are the rule's there, and then the others'
pub acting_from : (walked : List Walked) (i : ℕ) (rule : Walked) → i < length walked
    → acting (drop i walked) ≡ (get_or walked i rule).actions.now ++ acting (drop (i + 1) walked)
acting_from walked i rule below = rw (drop-cons walked i rule, add-one) refl

-- so many are they
pub acting_left : (walked : List Walked) (i : ℕ) (rule : Walked) → i < length walked → rule ≡ get_or walked i rule
    → length (acting (drop i walked)) ≡ length rule.actions.now + length (acting (drop (i + 1) walked))
acting_left walked i rule below is =
    ap length (acting_from walked i rule below) ∙ length-append (get_or walked i rule).actions.now (acting (drop (i + 1) walked))
    ∙ ap (λ (w : Walked). length w.actions.now + length (acting (drop (i + 1) walked))) (sym is)

pub first_of-found : {A : Type 0} (meaning : List ℕ → Option A) (xs ys : List (List ℕ)) (said : A)
    → first_of meaning xs ≡ Some said → first_of meaning (xs ++ ys) ≡ Some said
first_of-found meaning [] ys said found = cc
first_of-found {A} meaning (x ∷ xs) ys said found = at (meaning x) (first_of-found meaning xs ys said) found
  where
    at : (o : Option A) → (first_of meaning xs ≡ Some said → first_of meaning (xs ++ ys) ≡ Some said)
        → (elim o [ Some s ↦ Some s | None ↦ first_of meaning xs ]) ≡ Some said
        → (elim o [ Some s ↦ Some s | None ↦ first_of meaning (xs ++ ys) ]) ≡ Some said
    at (Some s) next here = here
    at None next later = next later

pub first_of-none : {A : Type 0} (meaning : List ℕ → Option A) (xs ys : List (List ℕ))
    → first_of meaning xs ≡ None → first_of meaning (xs ++ ys) ≡ first_of meaning ys
first_of-none meaning [] ys none = refl
first_of-none {A} meaning (x ∷ xs) ys none = at (meaning x) (first_of-none meaning xs ys) none
  where
    at : (o : Option A) → (first_of meaning xs ≡ None → first_of meaning (xs ++ ys) ≡ first_of meaning ys)
        → ◌≡◌ {A = Option A} (elim o [ Some s ↦ Some s | None ↦ first_of meaning xs ]) None
        → ◌≡◌ {A = Option A} (elim o [ Some s ↦ Some s | None ↦ first_of meaning (xs ++ ys) ]) (first_of meaning ys)
    at (Some s) next here = cc
    at None next later = next later

-- the rule at one place of a walk has what is looked for
pub said_there : {A : Type 0} (meaning : List ℕ → Option A) (walked : List Walked) (i : ℕ) (rule : Walked) (said : A) → i < length walked
    → rule ≡ get_or walked i rule → Some said ≡ first_of meaning rule.actions.now → first_of meaning (acting (drop i walked)) ≡ Some said
said_there meaning walked i rule said below is found =
    ap (first_of meaning) (acting_from walked i rule below)
    ∙ first_of-found meaning _ _ said (ap (λ (w : Walked). first_of meaning w.actions.now) (sym is) ∙ sym found)

-- the rule at one place of a walk lacks what is looked for
pub not_said_there : {A : Type 0} (meaning : List ℕ → Option A) (walked : List Walked) (i : ℕ) (rule : Walked) → i < length walked
    → rule ≡ get_or walked i rule → None ≡ first_of meaning rule.actions.now
    → first_of meaning (acting (drop i walked)) ≡ first_of meaning (acting (drop (i + 1) walked))
not_said_there meaning walked i rule below is none =
    ap (first_of meaning) (acting_from walked i rule below)
    ∙ first_of-none meaning _ _ (ap (λ (w : Walked). first_of meaning w.actions.now) (sym is) ∙ sym none)

-- the numbers of rules walked, as they are written behind the first
abbrev pub others_of : List Walked → List ℕ
others_of walked = others_text (numbers_walked (entries walked))

pub others_of-append : (xs ys : List Walked) → others_of (xs ++ ys) ≡ others_of xs ++ others_of ys
others_of-append [] ys = refl
others_of-append (x ∷ xs) ys =
    ap (λ rest. numbered (codes ",") x.number ++ rest) (others_of-append xs ys)
    ∙ sym (append_assoc (numbered (codes ",") x.number) (others_of xs) (others_of ys))

pub others_of-one : (x y : Walked) → x ≡ y → numbered (codes ",") x.number ≡ others_of (y ∷ [])
others_of-one x y is = sym (append-nil (numbered (codes ",") x.number)) ∙ ap (λ (w : Walked). others_of (w ∷ [])) is

-- the numbers of a walk of one rule or more
pub numbers_from : (walked : List Walked) (rule : Walked) → 1 ≤ length walked → rule ≡ get_or walked 0 rule
    → numbered (codes " rules ") rule.number ++ others_of (take (length walked - 1) (drop 1 walked))
    ≡ numbers_text (numbers_walked (entries walked))
numbers_from [] rule some is = let never : ⊥ = omega arith in absurd never
numbers_from (first ∷ others) rule some is =
    let all : take (length (first ∷ others) - 1) others ≡ others = grind (arith, common_steps) in
    ap (λ rest. numbered (codes " rules ") rule.number ++ others_of rest) all
    ∙ ap (λ (w : Walked). numbered (codes " rules ") w.number ++ others_of others) is

pub rates_text-append : (xs ys : List (List ℕ)) → rates_text (xs ++ ys) ≡ rates_text xs ++ rates_text ys
rates_text-append xs ys = ap (flat_map rate_text) (filter_map-append limit_of xs ys)
    ∙ flat_map-append rate_text (filter_map limit_of xs) (filter_map limit_of ys)

filter_map-one : {X Y : Type 0} (h : X → Option Y) (x : X) (y : Y) → h x ≡ Some y → filter_map h (x ∷ []) ≡ y ∷ []
filter_map-one h x y is = grind (arith, common_steps)

filter_map-none : {X Y : Type 0} (h : X → Option Y) (x : X) → h x ≡ None → filter_map h (x ∷ []) ≡ []
filter_map-none h x is = grind (arith, common_steps)

pub rates_text-one : (action : List ℕ) (rate : Rate) → limit_of action ≡ Some rate → rate_text rate ≡ rates_text (action ∷ [])
rates_text-one action rate is = sym (ap (flat_map rate_text) (filter_map-one limit_of action rate is) ∙ append-nil (rate_text rate))

pub rates_text-none : (action : List ℕ) → limit_of action ≡ None → [] ≡ rates_text (action ∷ [])
rates_text-none action is = sym (ap (flat_map rate_text) (filter_map-none limit_of action is))

acting-append : (xs ys : List Walked) → acting (xs ++ ys) ≡ acting xs ++ acting ys
acting-append [] ys = refl
acting-append (x ∷ xs) ys =
    ap (λ rest. x.actions.now ++ rest) (acting-append xs ys) ∙ sym (append_assoc x.actions.now (acting xs) (acting ys))

-- the rates of a walk, as they are written
abbrev pub rates_of : List Walked → List ℕ
rates_of walked = rates_text (acting walked)

pub rates_of-append : (xs ys : List Walked) → rates_of (xs ++ ys) ≡ rates_of xs ++ rates_of ys
rates_of-append xs ys = ap rates_text (acting-append xs ys) ∙ rates_text-append (acting xs) (acting ys)

pub rates_of-one : (x y : Walked) → x ≡ y → rates_text x.actions.now ≡ rates_of (y ∷ [])
rates_of-one x y is = ap rates_text (sym (append-nil x.actions.now)) ∙ ap (λ (w : Walked). rates_of (w ∷ [])) is
