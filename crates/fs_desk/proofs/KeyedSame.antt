-- Two lists in the order of a key that give the same at each key are one list.
use Rattle.fs_desk.proofs.Words.{◌≡◌, List, [], ◌∷◌, Bool, true, false, cond, Option, Some, None, option_map, refl, ap, sym, ◌∙◌, map, find}
use Rattle.fs_desk.proofs.Words.{true≢false, Ordering, Less, Equal, Greater, is_eq, ordering_reverse, IsTotalOrder, AllByRecursion}
use Rattle.fs_desk.proofs.Words.{IsStrictlySortedBy, sorted_head, sorted_tail}
use Rattle.std.proofs.lemmas.Cmp.{tied_itself, alike_right}

module _ {A K V : Type 0} (key : A → K) (value : A → V) (R : K → K → Ordering) where
  -- what the element of that key gives
  abbrev pub value_at : K → List A → Option V
  value_at k xs = option_map value (find (λ x. is_eq (R k (key x))) xs)

  -- with one more element in front, by how its key compares
  more : (k : K) (x : A) (xs : List A) (b : Bool) → is_eq (R k (key x)) ≡ b
      → value_at k (x ∷ xs) ≡ option_map value (cond b (Some x) (find (λ x. is_eq (R k (key x))) xs))
  more k x xs b h = ap (λ c. option_map value (cond c (Some x) (find (λ x. is_eq (R k (key x))) xs))) h

  absent : (k : K) (xs : List A) → AllByRecursion (λ p. R k p ≡ Less) (map key xs) → value_at k xs ≡ None
  absent k [] a = refl
  absent k (x ∷ xs) a = more k x xs false (ap is_eq a.0) ∙ absent k xs a.1

  module _ (o : IsTotalOrder R) where
    present : (x : A) (xs : List A) → value_at (key x) (x ∷ xs) ≡ Some (value x)
    present x xs = more (key x) x xs true (ap is_eq (tied_itself o (key x)))

    above : (k p : K) (ks : List K) → R k p ≡ Less → AllByRecursion (λ q. R p q ≡ Less) ks → AllByRecursion (λ q. R k q ≡ Less) ks
    above k p [] h a = tt
    above k p (q ∷ ks) h a = (IsTotalOrder.trans o k p q h a.0, above k p ks h a.1)

    alike : (k p : K) (ks : List K) → R k p ≡ Equal → AllByRecursion (λ q. R p q ≡ Less) ks → AllByRecursion (λ q. R k q ≡ Less) ks
    alike k p [] h a = tt
    alike k p (q ∷ ks) h a = (IsTotalOrder.congr o k p q h ∙ a.0, alike k p ks h a.1)

    is_equal : (r : Ordering) → is_eq r ≡ true → r ≡ Equal
    is_equal Less h = absurd (true≢false (sym h))
    is_equal Equal h = refl
    is_equal Greater h = absurd (true≢false (sym h))

    behind : (k : K) (x y : A) (xs ys : List A) → is_eq (R k (key x)) ≡ is_eq (R k (key y))
        → AllByRecursion (λ q. R (key x) q ≡ Less) (map key xs) → AllByRecursion (λ q. R (key y) q ≡ Less) (map key ys)
        → value_at k (x ∷ xs) ≡ value_at k (y ∷ ys) → value_at k xs ≡ value_at k ys
    behind k x y xs ys same a b e = by (is_eq (R k (key x))) refl
      where
        by : (c : Bool) → is_eq (R k (key x)) ≡ c → value_at k xs ≡ value_at k ys
        by true h =
            absent k xs (alike k (key x) (map key xs) (is_equal (R k (key x)) h) a)
            ∙ sym (absent k ys (alike k (key y) (map key ys) (is_equal (R k (key y)) (sym same ∙ h)) b))
        by false h = sym (more k x xs false h) ∙ e ∙ more k y ys false (sym same ∙ h)

    none_some : (o : Option V) (v : V) → o ≡ Some v → o ≡ None → ⊥
    none_some o v h n = absurd cc

    same_value : (a b : V) → Some a ≡ Some b → a ≡ b
    same_value a b found = cc

    module _ (whole : (x y : A) → R (key x) (key y) ≡ Equal → value x ≡ value y → x ≡ y) where
      pub one_list : (xs ys : List A) → IsStrictlySortedBy R (map key xs) → IsStrictlySortedBy R (map key ys)
          → ((k : K) → value_at k xs ≡ value_at k ys) → xs ≡ ys
      one_list [] [] s t e = refl
      one_list [] (y ∷ ys) s t e = absurd (none_some (value_at (key y) (y ∷ ys)) (value y) (present y ys) (sym (e (key y))))
      one_list (x ∷ xs) [] s t e = absurd (none_some (value_at (key x) (x ∷ xs)) (value x) (present x xs) (e (key x)))
      one_list (x ∷ xs) (y ∷ ys) s t e =
          by (R (key x) (key y)) refl (λ same. one_list xs ys (sorted_tail R (key x) (map key xs) s) (sorted_tail R (key y) (map key ys) t)
          (λ k. behind k x y xs ys (ap is_eq (alike_of k same)) (sorted_head R (key x) (map key xs) s) (sorted_head R (key y) (map key ys) t) (e k)))
        where
          alike_of : (k : K) → R (key x) (key y) ≡ Equal → R k (key x) ≡ R k (key y)
          alike_of k same = alike_right o (key x) (key y) k same

          by : (r : Ordering) → R (key x) (key y) ≡ r → (R (key x) (key y) ≡ Equal → xs ≡ ys) → x ∷ xs ≡ y ∷ ys
          by Less h rest =
              absurd (none_some (value_at (key x) (x ∷ xs)) (value x) (present x xs)
              (e (key x) ∙ absent (key x) (y ∷ ys) (h, above (key x) (key y) (map key ys) h (sorted_head R (key y) (map key ys) t))))
          by Greater h rest =
              let less : R (key y) (key x) ≡ Less = IsTotalOrder.antisymm o (key y) (key x) ∙ ap ordering_reverse h in
              absurd (none_some (value_at (key y) (y ∷ ys)) (value y) (present y ys)
              (sym (e (key y)) ∙ absent (key y) (x ∷ xs) (less, above (key y) (key x) (map key xs) less (sorted_head R (key x) (map key xs) s))))
          by Equal h rest =
              let found : Some (value x) ≡ Some (value y) = sym (present x xs) ∙ e (key x) ∙ more (key x) y ys true (ap is_eq h) in
              let same : x ≡ y = whole x y h (same_value (value x) (value y) found) in
              ap (λ (z : A). z ∷ xs) same ∙ ap (λ (l : List A). y ∷ l) (rest h)
