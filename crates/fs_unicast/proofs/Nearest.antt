-- The routes and the turns beside a place, as ranges of the maps give them.
use Rattle.fs_unicast.proofs.Words.{◌≡◌, refl, sym, ap, ◌∙◌, Bool, true, false, not, ◌&&◌, List, map, filter, find, slice_get, Option, Some, None}
use Rattle.fs_unicast.proofs.Words.{Less, is_le, is_lt, last_or, IsStrictlySortedBy, range_contains, Included, Excluded, Unbounded, and_false}
use Rattle.fs_unicast.proofs.Words.{and_true, each, each_weaker, filter_on, find_on, Place, place_cmp, find_last, later}
use Rattle.fs_unicast.proofs.PlaceOrder.{below_not_upto, falsified, upto_below}
use Rattle.fs_unicast.proofs.Finding.{first_filtered, last_filtered, find_none, none_found, after_found}

module _ {X : Type 0} (key : X → Place) (xs : List X) where
  first_on : (test other : X → Bool) → ((x : X) → test x ≡ other x) → (found : List X) → found ≡ filter test xs → slice_get found 0 ≡ find other xs
  first_on test other h found e = ap (λ ys. slice_get ys 0) e ∙ first_filtered test xs ∙ find_on test other xs (each (λ x. test x ≡ other x) h xs)

  -- the first after a place
  pub first_behind : (z : Place) (found : List X) → found ≡ filter (λ x. range_contains place_cmp (Excluded z) Unbounded (key x)) xs
      → slice_get found 0 ≡ find (λ x. is_lt (place_cmp z (key x))) xs
  first_behind z found e = first_on (λ x. range_contains place_cmp (Excluded z) Unbounded (key x)) (λ x. is_lt (place_cmp z (key x)))
      (λ x. and_true (is_lt (place_cmp z (key x)))) found e

  -- the first from a place on
  pub first_ahead : (z : Place) (found : List X) → found ≡ filter (λ x. range_contains place_cmp (Included z) Unbounded (key x)) xs
      → slice_get found 0 ≡ find (λ x. is_le (place_cmp z (key x))) xs
  first_ahead z found e = first_on (λ x. range_contains place_cmp (Included z) Unbounded (key x)) (λ x. is_le (place_cmp z (key x)))
      (λ x. and_true (is_le (place_cmp z (key x)))) found e

  last_on : (test other : X → Bool) → ((x : X) → test x ≡ other x) → (found : List X) → found ≡ filter test xs → last_or None found ≡ find_last other xs
  last_on test other h found e = ap (last_or None) (e ∙ filter_on test other xs (each (λ x. test x ≡ other x) h xs)) ∙ last_filtered other None xs
      ∙ or_none (find_last other xs) where
        or_none : (o : Option X) → later o None ≡ o
        or_none None = refl
        or_none (Some x) = refl

  -- the last before a place
  pub last_ahead : (z : Place) (found : List X) → found ≡ filter (λ x. range_contains place_cmp Unbounded (Excluded z) (key x)) xs
      → last_or None found ≡ find_last (λ x. is_lt (place_cmp (key x) z)) xs
  last_ahead z found e = last_on (λ x. range_contains place_cmp Unbounded (Excluded z) (key x)) (λ x. is_lt (place_cmp (key x) z))
      (λ x. sym (below_not_upto (key x) z)) found e

  -- of those that pass, those before an end
  abbrev ends : (X → Bool) → Place → X → Bool
  ends test high y = test y && is_lt (place_cmp (key y) high)

  -- the first that passes isn't before the end, so none that passes is
  pub none_before : (test : X → Bool) (high : Place) (x : X) → IsStrictlySortedBy place_cmp (map key xs) → find test xs ≡ Some x
      → is_lt (place_cmp (key x) high) ≡ false
      → None ≡ find (λ y. test y && is_lt (place_cmp (key y) high)) xs
  none_before test high x sorted e k =
      sym (find_none (ends test high) xs
      (each_weaker (λ y. test y ≡ true → IsPast y) (λ y. ends test high y ≡ false) (λ y. and_false (test y) (is_lt (place_cmp (key y) high))) xs
      (after_found place_cmp key test IsPast xs sorted x e k past))) where
        IsPast : X → Type 0
        IsPast y = is_lt (place_cmp (key y) high) ≡ false

        past : (y : X) → place_cmp (key x) (key y) ≡ Less → is_lt (place_cmp (key y) high) ≡ false
        past y less = falsified (is_lt (place_cmp (key y) high)) (λ yes. sym (upto_below (key x) (key y) high (ap is_le less) yes) ∙ k)

  -- nothing passes, so nothing does before the end
  pub none_within : (test : X → Bool) (high : Place) → find test xs ≡ None → None ≡ find (λ y. test y && is_lt (place_cmp (key y) high)) xs
  none_within test high e = sym (find_none (ends test high) xs
      (each_weaker (λ y. test y ≡ false) (λ y. ends test high y ≡ false) (λ y k. ap (λ b. b && is_lt (place_cmp (key y) high)) k) xs
      (none_found test xs e)))

  -- the last up to a place
  pub last_upto : (z : Place) (found : List X) → found ≡ filter (λ x. range_contains place_cmp Unbounded (Included z) (key x)) xs
      → last_or None found ≡ find_last (λ x. is_le (place_cmp (key x) z)) xs
  last_upto z found e = last_on (λ x. range_contains place_cmp Unbounded (Included z) (key x)) (λ x. is_le (place_cmp (key x) z))
      (λ x. not_not (is_le (place_cmp (key x) z)) (is_lt (place_cmp z (key x))) (below_not_upto z (key x))) found e where
        not_not : (b c : Bool) → c ≡ not b → not c ≡ b
        not_not true c h = ap not h
        not_not false c h = ap not h
