-- Places of which one is found, and to which one is added.
use Rattle.fs_recorder.proofs.PlaceWords.{Bool, List, None, Some, [], false, refl, subst, sym, true, ℕ, ◌++◌, ◌==◌, ◌∷◌, ◌≡◌, AllByRecursion, find}
use Rattle.fs_recorder.proofs.PlaceWords.{if◌then◌else◌, AreApart, Place, peers_at, place_for}

-- what is found is as all are
pub found_is : {X : Type 0} (P : X → Type 0) (test : X → Bool) (xs : List X) (x : X) → AllByRecursion P xs → find test xs ≡ Some x → P x
found_is P test [] x all e = cc
found_is P test (first ∷ xs) x all e = by (test first) (found_is P test xs x all.1) e
  where
    by : (b : Bool) → (find test xs ≡ Some x → P x) → (if b then Some first else find test xs) ≡ Some x → P x
    by true later f = let same : first ≡ x = cc in subst P same all.0
    by false later f = later f

pub more_are : {X : Type 0} (P : X → Type 0) (xs : List X) (x : X) → AllByRecursion P xs → P x → AllByRecursion P (xs ++ x ∷ [])
more_are P [] x all one = (one, tt)
more_are P (first ∷ xs) x all one = (all.0, more_are P xs x all.1 one)

pub both_are : {X : Type 0} (P : X → Type 0) (xs ys : List X) → AllByRecursion P xs → AllByRecursion P ys → AllByRecursion P (xs ++ ys)
both_are P [] ys a b = b
both_are P (first ∷ xs) ys a b = (a.0, both_are P xs ys a.1 b)

pub front_are : {X : Type 0} (P : X → Type 0) (xs ys : List X) → AllByRecursion P (xs ++ ys) → AllByRecursion P xs
front_are P [] ys all = tt
front_are P (x ∷ xs) ys all = (all.0, front_are P xs ys all.1)

pub last_is : {X : Type 0} (P : X → Type 0) (xs : List X) (x : X) → AllByRecursion P (xs ++ x ∷ []) → P x
last_is P [] x all = all.0
last_is P (first ∷ xs) x all = last_is P xs x all.1

-- A place is of another peer.
abbrev pub IsOther : ℕ → Place → Type 0
IsOther peer place = (place.peer == peer) ≡ false

pub others_of_none : (peer : ℕ) (places : List Place) → place_for peer places ≡ None → AllByRecursion (IsOther peer) places
others_of_none peer [] e = tt
others_of_none peer (place ∷ places) e = by (place.peer == peer) refl (others_of_none peer places) e
  where
    by : (b : Bool) → (place.peer == peer) ≡ b → (place_for peer places ≡ None → AllByRecursion (IsOther peer) places)
        → (if b then Some place else place_for peer places) ≡ None → AllByRecursion (IsOther peer) (place ∷ places)
    by true t later f = cc
    by false t later f = (t, later f)

pub none_of_others : (peer : ℕ) (places : List Place) → AllByRecursion (IsOther peer) places → place_for peer places ≡ None
none_of_others peer [] all = refl
none_of_others peer (place ∷ places) all =
    subst (λ (b : Bool). (if b then Some place else place_for peer places) ≡ None) (sym all.0) (none_of_others peer places all.1)

-- each place is of a peer of its own
abbrev pub Apart : List Place → Type 0
Apart places = AreApart (peers_at places)

pub peers_more : (P : ℕ → Type 0) (places : List Place) (place : Place) → AllByRecursion P (peers_at places) → P place.peer
    → AllByRecursion P (peers_at (places ++ place ∷ []))
peers_more P [] place all one = (one, tt)
peers_more P (first ∷ places) place all one = (all.0, peers_more P places place all.1 one)

pub apart_more : (places : List Place) (place : Place) → Apart places → AllByRecursion (IsOther place.peer) places → Apart (places ++ place ∷ [])
apart_more [] place all others = (tt, tt)
apart_more (first ∷ places) place all others =
    (peers_more (λ (other : ℕ). (first.peer == other) ≡ false) places place all.0 others.0, apart_more places place all.1 others.1)
