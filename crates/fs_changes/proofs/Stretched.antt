-- Where the routes of a destination stand in a list that stands in parts.
use Rattle.fs_changes.proofs.Words.{Bool, List, Option, [], ap, ap₂, arith, cond, drop, false, get_or, length, refl, subst, suc, sym, take, true}
use Rattle.fs_changes.proofs.Words.{true≢false, zero, ℕ, ◌++◌, ◌+◌, ◌-◌, ◌<◌, ◌∙◌, ◌∷◌, ◌≡◌, ◌≤◌, append_assoc, drop-append_seam, length-append}
use Rattle.fs_changes.proofs.Words.{take-append_seam, AllByRecursion, AllWithin, IsPartitionedBy, each_append, each_weaker, filter, is_eq, is_gt}
use Rattle.fs_changes.proofs.Words.{is_le, is_lt, FlowRoute, place_by, HaveStretch, AreInPlaces, after_it, at_it, before_it}
use Rattle.fs_changes.proofs.{Apart.{key}, Filters.{equal_is, greater_is, less_is}}

each_passes : {X : Type 0} (test : X → Bool) (xs : List X) → AllByRecursion (λ x. test x ≡ true) (filter test xs)
each_passes test [] = tt
each_passes {X} test (x ∷ xs) = at (test x) refl (each_passes test xs) where
  at : (b : Bool) → test x ≡ b → AllByRecursion (λ y. test y ≡ true) (filter test xs)
      → AllByRecursion (λ y. test y ≡ true) (cond b (x ∷ filter test xs) (filter test xs))
  at true e ih = (e, ih)
  at false e ih = ih

each_at : {X : Type 0} (P : X → Type 0) (xs : List X) (k : ℕ) (d : X) → AllByRecursion P xs → k < length xs → P (get_or xs k d)
each_at P [] k d each below = absurd (omega (arith, below))
each_at P (x ∷ xs) zero d each below = each.0
each_at P (x ∷ xs) (suc k) d each below = each_at P xs k d each.1 (omega (arith, below))

-- a list of which a first part passes a test, and the rest doesn't
in_parts : {X : Type 0} (p : X → Bool) (xs ys : List X) → AllByRecursion (λ x. p x ≡ true) xs → AllByRecursion (λ x. p x ≡ false) ys
    → IsPartitionedBy p (xs ++ ys)
in_parts p [] ys pass fail i j d le below e = absurd (true≢false (sym e ∙ each_at (λ y. p y ≡ false) ys j d fail below))
in_parts p (x ∷ xs) ys pass fail zero j d le below e = pass.0
in_parts p (x ∷ xs) ys pass fail (suc i) zero d le below e = absurd (omega (arith, le))
in_parts p (x ∷ xs) ys pass fail (suc i) (suc j) d le below e = in_parts p xs ys pass.1 fail i j d (omega (arith, le)) (omega (arith, below)) e

point_is : {X : Type 0} (p : X → Bool) (xs ys : List X) (n : ℕ) → AllByRecursion (λ x. p x ≡ true) xs → AllByRecursion (λ x. p x ≡ false) ys
    → n ≤ length (xs ++ ys)
    → AllWithin (λ y. p y ≡ true) (xs ++ ys) 0 n → AllWithin (λ y. p y ≡ false) (xs ++ ys) n (length (xs ++ ys)) → n ≡ length xs
point_is p [] ys zero pass fail within front back = refl
point_is p [] [] (suc n) pass fail within front back = absurd (omega (arith, within))
point_is p [] (y ∷ ys) (suc n) pass fail within front back = absurd (true≢false (sym (front 0 y (omega arith) (omega arith)) ∙ fail.0))
point_is p (x ∷ xs) ys zero pass fail within front back = absurd (true≢false (sym pass.0 ∙ back 0 x (omega arith) (omega arith)))
point_is p (x ∷ xs) ys (suc n) pass fail within front back =
    let same : n ≡ length xs = point_is p xs ys n pass.1 fail (omega (arith, within))
    (λ k d low high. front (suc k) d (omega arith) (omega (arith, high)))
    (λ k d low high. back (suc k) d (omega (arith, low)) (omega (arith, high))) in
    omega (arith, same)

module _ (t : Option (ℕ × ℕ)) (routes : List FlowRoute) where
  abbrev is_before : FlowRoute → Bool
  is_before y = is_lt (place_by t (key y))

  abbrev is_until : FlowRoute → Bool
  is_until y = is_le (place_by t (key y))

  low_before : AllByRecursion (λ y. is_before y ≡ true) (before_it t routes)
  low_before = each_passes is_before routes

  high_before : AllByRecursion (λ y. is_before y ≡ false) (at_it t routes ++ after_it t routes)
  high_before = each_append (λ y. is_before y ≡ false) (at_it t routes) (after_it t routes)
      (each_weaker (λ y. is_eq (place_by t (key y)) ≡ true) (λ y. is_before y ≡ false) (λ y e. ap is_lt (equal_is (place_by t (key y)) e))
      (at_it t routes) (each_passes (λ y. is_eq (place_by t (key y))) routes))
      (each_weaker (λ y. is_gt (place_by t (key y)) ≡ true) (λ y. is_before y ≡ false) (λ y e. ap is_lt (greater_is (place_by t (key y)) e))
      (after_it t routes) (each_passes (λ y. is_gt (place_by t (key y))) routes))

  low_until : AllByRecursion (λ y. is_until y ≡ true) (before_it t routes ++ at_it t routes)
  low_until = each_append (λ y. is_until y ≡ true) (before_it t routes) (at_it t routes)
      (each_weaker (λ y. is_before y ≡ true) (λ y. is_until y ≡ true) (λ y e. ap is_le (less_is (place_by t (key y)) e)) (before_it t routes)
      (each_passes is_before routes))
      (each_weaker (λ y. is_eq (place_by t (key y)) ≡ true) (λ y. is_until y ≡ true) (λ y e. ap is_le (equal_is (place_by t (key y)) e))
      (at_it t routes) (each_passes (λ y. is_eq (place_by t (key y))) routes))

  high_until : AllByRecursion (λ y. is_until y ≡ false) (after_it t routes)
  high_until = each_weaker (λ y. is_gt (place_by t (key y)) ≡ true) (λ y. is_until y ≡ false) (λ y e. ap is_le (greater_is (place_by t (key y)) e))
      (after_it t routes) (each_passes (λ y. is_gt (place_by t (key y))) routes)

  two_parts : AreInPlaces t routes → (before_it t routes ++ at_it t routes) ++ after_it t routes ≡ routes
  two_parts h = append_assoc (before_it t routes) (at_it t routes) (after_it t routes) ∙ h

  pub parted_before : AreInPlaces t routes → IsPartitionedBy is_before routes
  parted_before h = subst (IsPartitionedBy is_before) h (in_parts is_before (before_it t routes) (at_it t routes ++ after_it t routes) low_before high_before)

  pub parted_until : AreInPlaces t routes → IsPartitionedBy is_until routes
  parted_until h = subst (IsPartitionedBy is_until) (two_parts h)
      (in_parts is_until (before_it t routes ++ at_it t routes) (after_it t routes) low_until high_until)

  pub have_stretch : (from to : ℕ) → AreInPlaces t routes → from ≤ length routes → to ≤ length routes
      → AllWithin (λ y. is_before y ≡ true) routes 0 from → AllWithin (λ y. is_before y ≡ false) routes from (length routes)
      → AllWithin (λ y. is_until y ≡ true) routes 0 to → AllWithin (λ y. is_until y ≡ false) routes to (length routes)
      → HaveStretch t routes from to
  have_stretch from to h from_in to_in front back front' back' = record {
    ordered = omega (arith, from_is, to_is);
    within = to_in;
    size = from_is;
    before = ap (take from) (sym h) ∙ ap (λ n. take n (lows ++ (sames ++ highs))) from_is ∙ take-append_seam lows (sames ++ highs);
    at = ap₂ take (omega (arith, from_is, to_is)) dropped ∙ take-append_seam sames highs;
    after = ap (drop to) (sym (two_parts h)) ∙ ap (λ n. drop n ((lows ++ sames) ++ highs)) (to_is ∙ sym (length-append lows sames))
        ∙ drop-append_seam (lows ++ sames) highs;
  } where
    lows : List FlowRoute
    lows = before_it t routes

    sames : List FlowRoute
    sames = at_it t routes

    highs : List FlowRoute
    highs = after_it t routes

    from_is : from ≡ length lows
    from_is = point_is is_before lows (sames ++ highs) from low_before high_before (subst (λ xs. from ≤ length xs) (sym h) from_in)
        (subst (λ xs. AllWithin (λ y. is_before y ≡ true) xs 0 from) (sym h) front)
        (subst (λ xs. AllWithin (λ y. is_before y ≡ false) xs from (length xs)) (sym h) back)

    to_is : to ≡ length lows + length sames
    to_is = point_is is_until (lows ++ sames) highs to low_until high_until (subst (λ xs. to ≤ length xs) (sym (two_parts h)) to_in)
        (subst (λ xs. AllWithin (λ y. is_until y ≡ true) xs 0 to) (sym (two_parts h)) front')
        (subst (λ xs. AllWithin (λ y. is_until y ≡ false) xs to (length xs)) (sym (two_parts h)) back')
        ∙ length-append lows sames

    dropped : drop from routes ≡ sames ++ highs
    dropped = ap (drop from) (sym h) ∙ ap (λ n. drop n (lows ++ (sames ++ highs))) from_is ∙ drop-append_seam lows (sames ++ highs)
