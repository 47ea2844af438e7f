-- What is in the list of a field's actions: exactly the normal forms of its listed communities.
use Rattle.fs_actions.proofs.Words.{◌≡◌, ℕ, zero, suc, ◌<◌, List, [], ◌∷◌, length, get_or, refl, sym, ap, ◌∙◌, arith, ◌⊎◌, inl, inr, Contains}
use Rattle.fs_actions.proofs.Words.{Ordering, filter_map, Option, Some, None, Less, Equal, Greater, match_ordering, cons_option, IsStrictlySortedBy}
use Rattle.fs_actions.proofs.Words.{normal_form, communities, with_action, with_actions, actions_of}
use Rattle.fs_actions.proofs.Insertion.{by_octets, rising_with}
use Rattle.fs_actions.specs.Laws.{IsListed, AreListed}
use Rattle.std.proofs.lemmas.Map.Lookups.{exact_bytes}

abbrev IsAmong : List ℕ → List (List ℕ) → Type 0
IsAmong x [] = ⊥
IsAmong x (y ∷ ys) = (y ≡ x) ⊎ IsAmong x ys

among : (x : List ℕ) (xs : List (List ℕ)) (k : ℕ) → k < length xs → get_or xs k x ≡ x → IsAmong x xs
among x [] k inside is = absurd (omega arith)
among x (y ∷ ys) zero inside is = inl is
among x (y ∷ ys) (suc k) inside is = inr (among x ys k (omega arith) is)

contained : (x : List ℕ) (xs : List (List ℕ)) → IsAmong x xs → Contains xs x
contained x [] h = absurd h
contained x (y ∷ ys) (inl same) = (0, omega arith, same)
contained x (y ∷ ys) (inr later) = let found = contained x ys later in let inside : found.0 < length ys = found.1 in (suc found.0, omega arith, found.2)

-- a list with one action more
with_has : (x a : List ℕ) (xs : List (List ℕ)) → (a ≡ x) ⊎ IsAmong x xs → IsAmong x (with_action a xs)
with_has x a [] (inl same) = inl same
with_has x a [] (inr later) = absurd later
with_has x a (y ∷ ys) h = at (by_octets a y) refl h (with_has x a ys)
  where
    at : (r : Ordering) → by_octets a y ≡ r → (a ≡ x) ⊎ IsAmong x (y ∷ ys) → ((a ≡ x) ⊎ IsAmong x ys → IsAmong x (with_action a ys))
        → IsAmong x (match_ordering r (a ∷ y ∷ ys) (y ∷ ys) (y ∷ with_action a ys))
    at Less e h more = h
    at Equal e (inl same) more = inl (sym (exact_bytes a y e) ∙ same)
    at Equal e (inr there) more = there
    at Greater e (inl same) more = inr (more (inl same))
    at Greater e (inr (inl first)) more = inl first
    at Greater e (inr (inr later)) more = inr (more (inr later))

with_had : (x a : List ℕ) (xs : List (List ℕ)) → IsAmong x (with_action a xs) → (a ≡ x) ⊎ IsAmong x xs
with_had x a [] h = h
with_had x a (y ∷ ys) h = at (by_octets a y) h (with_had x a ys)
  where
    at : (r : Ordering) → IsAmong x (match_ordering r (a ∷ y ∷ ys) (y ∷ ys) (y ∷ with_action a ys)) → (IsAmong x (with_action a ys) → (a ≡ x) ⊎ IsAmong x ys)
        → (a ≡ x) ⊎ IsAmong x (y ∷ ys)
    at Less h less = h
    at Equal h less = inr h
    at Greater (inl first) less = inr (inl first)
    at Greater (inr later) less = elim (less later) [ inl same ↦ inl same | inr there ↦ inr (inr there) ]

-- a list with these actions
all_has : (x : List ℕ) (new xs : List (List ℕ)) → IsAmong x new ⊎ IsAmong x xs → IsAmong x (with_actions new xs)
all_has x [] xs (inl none) = absurd none
all_has x [] xs (inr there) = there
all_has x (a ∷ new) xs (inl (inl same)) = all_has x new (with_action a xs) (inr (with_has x a xs (inl same)))
all_has x (a ∷ new) xs (inl (inr later)) = all_has x new (with_action a xs) (inl later)
all_has x (a ∷ new) xs (inr there) = all_has x new (with_action a xs) (inr (with_has x a xs (inr there)))

all_had : (x : List ℕ) (new xs : List (List ℕ)) → IsAmong x (with_actions new xs) → IsAmong x new ⊎ IsAmong x xs
all_had x [] xs h = inr h
all_had x (a ∷ new) xs h = elim (all_had x new (with_action a xs) h) [
  | inl later ↦ inl (inr later)
  | inr there ↦ elim (with_had x a xs there) [ inl same ↦ inl (inl same) | inr old ↦ inr old ]
]

all_rising : (new xs : List (List ℕ)) → IsStrictlySortedBy by_octets xs → IsStrictlySortedBy by_octets (with_actions new xs)
all_rising [] xs h = h
all_rising (a ∷ new) xs h = all_rising new (with_action a xs) (rising_with a xs h)

-- the normal forms of these communities
abbrev HasForm : List ℕ → List (List ℕ) → Type 0
HasForm x communities = (community : List ℕ) × IsAmong community communities × (normal_form community ≡ Some x)

forms_had : (x : List ℕ) (cs : List (List ℕ)) → IsAmong x (filter_map normal_form cs) → HasForm x cs
forms_had x [] h = absurd h
forms_had x (c ∷ cs) h = at (normal_form c) refl h (forms_had x cs)
  where
    at : (o : Option (List ℕ)) → normal_form c ≡ o → IsAmong x (cons_option o (filter_map normal_form cs))
        → (IsAmong x (filter_map normal_form cs) → HasForm x cs) → HasForm x (c ∷ cs)
    at None e h more = let found = more h in (found.0, inr found.1, found.2)
    at (Some y) e (inl same) more = (c, inl refl, e ∙ ap (λ (z : List ℕ). let some : Option (List ℕ) = Some z in some) same)
    at (Some y) e (inr later) more = let found = more later in (found.0, inr found.1, found.2)

forms_has : (x c : List ℕ) (cs : List (List ℕ)) → IsAmong c cs → normal_form c ≡ Some x → IsAmong x (filter_map normal_form cs)
forms_has x c [] h e = absurd h
forms_has x c (d ∷ cs) (inl same) e =
    let own : normal_form d ≡ Some x = ap normal_form same ∙ e in
    rw own (inl refl)
forms_has x c (d ∷ cs) (inr later) e = at (normal_form d) (forms_has x c cs later e)
  where
    at : (o : Option (List ℕ)) → IsAmong x (filter_map normal_form cs) → IsAmong x (cons_option o (filter_map normal_form cs))
    at None there = there
    at (Some y) there = inr there

pub are_listed : (octets : List ℕ) → AreListed octets (actions_of octets)
unfolding IsStrictlySortedBy
are_listed octets = record {
  exact = λ action. (listed action, held action);
  rising = all_rising (filter_map normal_form (communities octets)) [] tt;
}
  where
    listed : (action : List ℕ) → Contains (actions_of octets) action → IsListed octets action
    listed action h =
        let there = all_had action (filter_map normal_form (communities octets)) [] (among action (actions_of octets) h.0 h.1 h.2) in
        elim there [
          | inl form ↦ let found = forms_had action (communities octets) form in
              record { community = found.0; stands = contained found.0 (communities octets) found.1; normal = found.2 }
          | inr none ↦ absurd none
        ]

    held : (action : List ℕ) → IsListed octets action → Contains (actions_of octets) action
    held action h =
        contained action (actions_of octets)
        (all_has action (filter_map normal_form (communities octets)) []
        (inl (forms_has action h.community (communities octets) (among h.community (communities octets) h.stands.0 h.stands.1 h.stands.2) h.normal)))
