use Rattle.fs_desk.proofs.Words.{◌≡◌, List, [], ◌∷◌, Bool, true, false, not, cond, Option, Some, None, if◌then◌else◌, refl, ap, sym, ◌∙◌, map, filter}
use Rattle.fs_desk.proofs.Words.{find, true≢false, Ordering, Less, Equal, Greater, is_eq, match_ordering, ordering_reverse, IsTotalOrder, alike_right}
use Rattle.fs_desk.proofs.Words.{AllByRecursion, each_mapped, each_of_map, each_weaker, each_filtered, IsStrictlySortedBy, equal_of_is_eq}

-- Lists that are kept in the order of a key, one element a key: what putting, taking away and looking up do.

module _ {X K : Type 0} (key : X → K) (R : K → K → Ordering) where
  -- the element of that key
  abbrev pub at_key : K → List X → Option X
  at_key k xs = find (λ x. is_eq (R k (key x))) xs

  -- with this element in its place, for the one of its key if there is one
  abbrev pub put_by : X → List X → List X
  put_by x [] = x ∷ []
  put_by x (y ∷ ys) = match_ordering (R (key x) (key y)) (x ∷ y ∷ ys) (x ∷ ys) (y ∷ put_by x ys)

  -- without the element of that key
  abbrev pub without_key : K → List X → List X
  without_key k xs = filter (λ x. not (is_eq (R k (key x)))) xs

  module _ (o : IsTotalOrder R) where
    same_side : (k : K) (x y : X) → R (key x) (key y) ≡ Equal → is_eq (R k (key x)) ≡ is_eq (R k (key y))
    same_side k x y e = ap is_eq (alike_right o (key x) (key y) k e)

    twice : (b : Bool) (x y : X) (rest : Option X) → cond b (Some x) rest ≡ cond b (Some x) (cond b (Some y) rest)
    twice true x y rest = refl
    twice false x y rest = refl

    apart : (k : K) (x y : X) → R (key x) (key y) ≡ Greater → is_eq (R k (key x)) ≡ true → is_eq (R k (key y)) ≡ false
    apart k x y g e = ap is_eq (IsTotalOrder.congr o k (key x) (key y) (equal_of_is_eq (R k (key x)) e) ∙ g)

    swapped : (b c : Bool) (x y : X) (rest : Option X) → (b ≡ true → c ≡ false)
        → cond c (Some y) (cond b (Some x) rest) ≡ cond b (Some x) (cond c (Some y) rest)
    swapped true true x y rest h = absurd (true≢false (h refl))
    swapped true false x y rest h = refl
    swapped false c x y rest h = refl

    pub at_key-put_by : (k : K) (x : X) (xs : List X) → at_key k (put_by x xs) ≡ (if is_eq (R k (key x)) then Some x else at_key k xs)
    at_key-put_by k x [] = refl
    at_key-put_by k x (y ∷ ys) = by (R (key x) (key y)) refl (at_key-put_by k x ys)
      where
        by : (r : Ordering) → R (key x) (key y) ≡ r
            → at_key k (put_by x ys) ≡ (if is_eq (R k (key x)) then Some x else at_key k ys)
            → at_key k (match_ordering r (x ∷ y ∷ ys) (x ∷ ys) (y ∷ put_by x ys))
            ≡ cond (is_eq (R k (key x))) (Some x) (cond (is_eq (R k (key y))) (Some y) (at_key k ys))
        by Less h later = refl
        by Equal h later = twice (is_eq (R k (key x))) x y (at_key k ys)
            ∙ ap (λ b. cond (is_eq (R k (key x))) (Some x) (cond b (Some y) (at_key k ys))) (same_side k x y h)
        by Greater h later = ap (λ rest. cond (is_eq (R k (key y))) (Some y) rest) later
            ∙ swapped (is_eq (R k (key x))) (is_eq (R k (key y))) x y (at_key k ys) (apart k x y h)

    kept_out : (b c d : Bool) (x : X) (rest old : Option X) → (c ≡ true → b ≡ d) → rest ≡ (if b then old else None)
        → cond d (cond c (Some x) rest) rest ≡ (if b then cond c (Some x) old else None)
    kept_out true true true x rest old f h = refl
    kept_out true true false x rest old f h = absurd (true≢false (f refl))
    kept_out true false true x rest old f h = h
    kept_out true false false x rest old f h = h
    kept_out false true true x rest old f h = absurd (true≢false (sym (f refl)))
    kept_out false true false x rest old f h = h
    kept_out false false true x rest old f h = h
    kept_out false false false x rest old f h = h

    at_kept : (k : K) (x : X) (b : Bool) (xs : List X)
        → at_key k (cond b (x ∷ xs) xs) ≡ cond b (cond (is_eq (R k (key x))) (Some x) (at_key k xs)) (at_key k xs)
    at_kept k x true xs = refl
    at_kept k x false xs = refl

    none_kept : (b : Bool) → None ≡ (if b then (let o : Option X = None in o) else None)
    none_kept true = refl
    none_kept false = refl

    -- of a list from which the keys that fail a test are taken away
    pub at_key-filter : (left : K → Bool) → ((k q : K) → R k q ≡ Equal → left k ≡ left q) → (k : K) (xs : List X)
        → at_key k (filter (λ x. left (key x)) xs) ≡ (if left k then at_key k xs else None)
    at_key-filter left same k [] = none_kept (left k)
    at_key-filter left same k (x ∷ xs) =
        at_kept k x (left (key x)) (filter (λ y. left (key y)) xs)
        ∙ kept_out (left k) (is_eq (R k (key x))) (left (key x)) x (at_key k (filter (λ y. left (key y)) xs)) (at_key k xs)
        (λ c. same k (key x) (equal_of_is_eq (R k (key x)) c))
        (at_key-filter left same k xs)

    turned : (b : Bool) (r : Ordering) (old : Option X) → b ≡ is_eq (ordering_reverse r) → (if not b then old else None) ≡ (if is_eq r then None else old)
    turned b Less old h = ap (λ (c : Bool). if not c then old else None) h
    turned b Equal old h = ap (λ (c : Bool). if not c then old else None) h
    turned b Greater old h = ap (λ (c : Bool). if not c then old else None) h

    pub at_key-without : (k q : K) (xs : List X) → at_key k (without_key q xs) ≡ (if is_eq (R k q) then None else at_key k xs)
    at_key-without k q xs =
        at_key-filter (λ p. not (is_eq (R q p))) (λ p r h. ap (λ (s : Ordering). not (is_eq s)) (alike_right o p r q h)) k xs
        ∙ turned (is_eq (R q k)) (R k q) (at_key k xs) (ap is_eq (IsTotalOrder.antisymm o q k))

    -- the keys rise strictly
    abbrev pub IsListed : List X → Type 0
    IsListed xs = IsStrictlySortedBy R (map key xs)

    above_put : (k : K) (x : X) (xs : List X) → R k (key x) ≡ Less → AllByRecursion (λ q. R k q ≡ Less) (map key xs)
        → AllByRecursion (λ q. R k q ≡ Less) (map key (put_by x xs))
    above_put k x [] h a = (h, tt)
    above_put k x (y ∷ ys) h a = by (R (key x) (key y)) (above_put k x ys h a.1)
      where
        by : (r : Ordering) → AllByRecursion (λ q. R k q ≡ Less) (map key (put_by x ys))
            → AllByRecursion (λ q. R k q ≡ Less) (map key (match_ordering r (x ∷ y ∷ ys) (x ∷ ys) (y ∷ put_by x ys)))
        by Less later = (h, a)
        by Equal later = (h, a.1)
        by Greater later = (a.0, later)

    above_less : (k q : K) (xs : List X) → R k q ≡ Less → AllByRecursion (λ p. R q p ≡ Less) (map key xs) → AllByRecursion (λ p. R k p ≡ Less) (map key xs)
    above_less k q xs h a = each_weaker (λ p. R q p ≡ Less) (λ p. R k p ≡ Less) (λ p g. IsTotalOrder.trans o k q p h g) (map key xs) a

    above_same : (k q : K) (xs : List X) → R k q ≡ Equal → AllByRecursion (λ p. R q p ≡ Less) (map key xs) → AllByRecursion (λ p. R k p ≡ Less) (map key xs)
    above_same k q xs h a = each_weaker (λ p. R q p ≡ Less) (λ p. R k p ≡ Less) (λ p g. IsTotalOrder.congr o k q p h ∙ g) (map key xs) a

    less_back : (k q : K) → R k q ≡ Greater → R q k ≡ Less
    less_back k q h = IsTotalOrder.antisymm o q k ∙ ap ordering_reverse h

    pub listed-put_by : (x : X) (xs : List X) → IsListed xs → IsListed (put_by x xs)
    unfolding IsStrictlySortedBy
    listed-put_by x [] s = (tt, tt)
    listed-put_by x (y ∷ ys) s = by (R (key x) (key y)) refl (listed-put_by x ys s.1)
      where
        by : (r : Ordering) → R (key x) (key y) ≡ r → IsListed (put_by x ys) → IsListed (match_ordering r (x ∷ y ∷ ys) (x ∷ ys) (y ∷ put_by x ys))
        by Less h later = ((h, above_less (key x) (key y) ys h s.0), s)
        by Equal h later = (above_same (key x) (key y) ys h s.0, s.1)
        by Greater h later = (above_put (key y) x ys (less_back (key x) (key y) h) s.0, later)

    above_filter : (p : X → Bool) (k : K) (xs : List X) → AllByRecursion (λ q. R k q ≡ Less) (map key xs)
        → AllByRecursion (λ q. R k q ≡ Less) (map key (filter p xs))
    above_filter p k xs a = each_mapped key (λ q. R k q ≡ Less) (filter p xs)
        (each_filtered (λ x. R k (key x) ≡ Less) p xs (each_of_map key (λ q. R k q ≡ Less) xs a))

    pub listed-filter : (p : X → Bool) (xs : List X) → IsListed xs → IsListed (filter p xs)
    unfolding IsStrictlySortedBy
    listed-filter p [] s = tt
    listed-filter p (x ∷ xs) s = by (p x) (listed-filter p xs s.1)
      where
        by : (b : Bool) → IsListed (filter p xs) → IsListed (cond b (x ∷ filter p xs) (filter p xs))
        by true later = (above_filter p (key x) xs s.0, later)
        by false later = later
