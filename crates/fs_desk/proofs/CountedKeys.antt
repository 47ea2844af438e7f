-- Keys that are mentioned and left, each counted once, are as many as the entries of a peer.
use Rattle.std.{proofs.Common.{Less, Ordering}, specs.Set.{distinct_count}}
use Rattle.fs_desk.proofs.Words.{◌≡◌, inl, inr, Bool, true, false, true≢false, ◌&&◌, ◌||◌, cond, List, [], ◌∷◌, length, map, filter, flat_map, refl}
use Rattle.fs_desk.proofs.Words.{sym, ap, ap₂, ◌∙◌, length-map, list_any-append, sorted_head, sorted_tail, length-from_keys, IsEquivalence, list_any}
use Rattle.fs_desk.proofs.Words.{AllByRecursion, IsDistinct, IsStrictlySortedBy, and_both, and_first, and_second, or_either, or_first, or_second}
use Rattle.fs_desk.proofs.Words.{same_tests, any_filter, each_weaker}

-- whether some element passes, in other words
pub any_on : {A : Type 0} (p q : A → Bool) (xs : List A) → ((x : A) → p x ≡ q x) → list_any p xs ≡ list_any q xs
any_on p q [] h = refl
any_on p q (x ∷ xs) h = ap₂ (λ a b. a || b) (h x) (any_on p q xs h)

any_weaker : {A : Type 0} (p q : A → Bool) (xs : List A) → AllByRecursion (λ x. p x ≡ true → q x ≡ true) xs → list_any p xs ≡ true → list_any q xs ≡ true
any_weaker p q [] all h = h
any_weaker p q (x ∷ xs) all h = elim (or_either (p x) (list_any p xs) h) [
  | inl e ↦ or_first (q x) (list_any q xs) (all.0 e)
  | inr e ↦ or_second (q x) (list_any q xs) (any_weaker p q xs all.1 e)
]

-- an element that passes, with what holds of all
any_found : {A : Type 0} (Q : A → Type 0) (p : A → Bool) (xs : List A) → AllByRecursion Q xs → list_any p xs ≡ true → (x : A) × (p x ≡ true) × Q x
any_found Q p [] all h = absurd (true≢false (sym h))
any_found Q p (x ∷ xs) all h = elim (or_either (p x) (list_any p xs) h) [
  | inl e ↦ (x, e, all.0)
  | inr e ↦ any_found Q p xs all.1 e
]

pub any_map : {A B : Type 0} (p : B → Bool) (f : A → B) (xs : List A) → list_any p (map f xs) ≡ list_any (λ x. p (f x)) xs
any_map p f [] = refl
any_map p f (x ∷ xs) = ap (λ b. p (f x) || b) (any_map p f xs)

pub any_flat : {A B : Type 0} (p : B → Bool) (f : A → List B) (xs : List A) → list_any p (flat_map f xs) ≡ list_any (λ x. list_any p (f x)) xs
any_flat p f [] = refl
any_flat p f (x ∷ xs) = list_any-append p (f x) (flat_map f xs) ∙ ap (λ b. list_any p (f x) || b) (any_flat p f xs)

module _ {K E : Type 0} (same : K → K → Bool) (laws : IsEquivalence same) (key : E → K) (mine : E → Bool) where
  -- the keys of the peer's entries
  abbrev keys : List E → List K
  keys entries = map key (filter mine entries)

  pub any_own : (q : K) (entries : List E) → list_any (same q) (keys entries) ≡ list_any (λ e. mine e && same q (key e)) entries
  any_own q entries = any_map (same q) key (filter mine entries) ∙ any_filter mine (λ e. same q (key e)) entries

  -- entries in the order of another key, by which the peer's keys are apart
  module _ {C : Type 0} (R : C → C → Ordering) (code : E → C) (apart : (r s : E) → mine r ≡ true → mine s ≡ true → R (code r) (code s) ≡ Less
      → same (key r) (key s) ≡ false) where
    later : (r : E) (rest : List E) → mine r ≡ true → AllByRecursion (λ c. R (code r) c ≡ Less) (map code rest)
        → AllByRecursion (λ k. same (key r) k ≡ false) (keys rest)
    later r [] h all = tt
    later r (s ∷ rest) h all = at (mine s) refl (later r rest h all.1) where
      at : (b : Bool) → mine s ≡ b → AllByRecursion (λ k. same (key r) k ≡ false) (keys rest)
          → AllByRecursion (λ k. same (key r) k ≡ false) (map key (cond b (s ∷ filter mine rest) (filter mine rest)))
      at true k others = (apart r s h k all.0, others)
      at false k others = others

    pub distinct_own : (entries : List E) → IsStrictlySortedBy R (map code entries) → IsDistinct same (keys entries)
    unfolding IsDistinct
    distinct_own [] sorted = tt
    distinct_own (r ∷ rest) sorted = at (mine r) refl (distinct_own rest (sorted_tail R (code r) (map code rest) sorted)) where
      at : (b : Bool) → mine r ≡ b → IsDistinct same (keys rest) → IsDistinct same (map key (cond b (r ∷ filter mine rest) (filter mine rest)))
      at true h others = (later r rest h (sorted_head R (code r) (map code rest) sorted), others)
      at false h others = others

  module _ (Q : K → Type 0) (left : K → Bool) (mentioned : List K) (entries : List E)
      (own : AllByRecursion Q (keys entries)) (all : AllByRecursion Q mentioned)
      (tells : (q : K) → Q q → left q ≡ list_any (same q) (keys entries))
      (given : (q : K) → left q ≡ true → list_any (same q) mentioned ≡ true) where
    through : (a b q : K) → same a b ≡ true → same q a ≡ true → same q b ≡ true
    through a b q h k = laws.symm q b ∙ sym (laws.congr a b q h) ∙ laws.symm a q ∙ k

    member : (q : K) → list_any (same q) (keys entries) ≡ list_any (same q) (filter left mentioned)
    member q = same_tests (list_any (same q) (keys entries)) (list_any (same q) (filter left mentioned)) up down where
      up : list_any (same q) (keys entries) ≡ true → list_any (same q) (filter left mentioned) ≡ true
      up h =
          let n = any_found Q (same q) (keys entries) own h in
          let held : list_any (same n.0) (keys entries) ≡ true = sym (any_on (same q) (same n.0) (keys entries) (λ z. laws.congr q n.0 z n.1)) ∙ h in
          let there : list_any (same n.0) mentioned ≡ true = given n.0 (tells n.0 n.2 ∙ held) in
          any_filter left (same q) mentioned
          ∙ any_weaker (same n.0) (λ x. left x && same q x) mentioned
          (each_weaker Q (λ x. same n.0 x ≡ true → (left x && same q x) ≡ true)
          (λ x c k. and_both (left x) (same q x)
          (tells x c ∙ sym (any_on (same n.0) (same x) (keys entries) (λ z. laws.congr n.0 x z k)) ∙ held)
          (through n.0 x q k n.1)) mentioned all) there

      down : list_any (same q) (filter left mentioned) ≡ true → list_any (same q) (keys entries) ≡ true
      down h =
          let x = any_found Q (λ x. left x && same q x) mentioned all (sym (any_filter left (same q) mentioned) ∙ h) in
          any_on (same q) (same x.0) (keys entries) (λ z. laws.congr q x.0 z (and_second (left x.0) (same q x.0) x.1))
          ∙ sym (tells x.0 x.2) ∙ and_first (left x.0) (same q x.0) x.1

    pub counted_own : IsDistinct same (keys entries) → length (filter mine entries) ≡ distinct_count same (filter left mentioned)
    counted_own distinct = sym (length-map (filter mine entries) key) ∙ length-from_keys laws (keys entries) (filter left mentioned) distinct member
