use Rattle.fs_buckets.proofs.Words.{◌≡◌, ℕ, zero, suc, ◌+◌, ◌-◌, ◌<◌, ◌≤◌, refl, sym, ap, ap₂, ◌∙◌, Bool, true, false, true≢false, cond, not, ◌||◌}
use Rattle.fs_buckets.proofs.Words.{List, [], ◌∷◌, ◌++◌, length, get_or, take, drop, map, filter, Ordering, Less, Equal, Greater, arith, is_eq, is_gt}
use Rattle.fs_buckets.proofs.Words.{is_lt, filter-append}

-- Lists parted by a test, or by an order: what stands in front, at a place, and behind.

-- What passes a test stands in front, or behind.
pub filter_front : {X K : Type 0} (key : X → K) (p : K → Bool) (e : K) (xs : List X) (n : ℕ)
    → ((k : ℕ) → k < n → k < length xs → p (get_or (map key xs) k e) ≡ true)
    → ((k : ℕ) → n ≤ k → k < length xs → p (get_or (map key xs) k e) ≡ false) → filter (λ x. p (key x)) xs ≡ take n xs
filter_front key p e [] zero passes fails = refl
filter_front key p e [] (suc n) passes fails = refl
filter_front key p e (x ∷ xs) zero passes fails =
    at (p (key x)) (fails 0 (omega arith) (omega arith))
    (filter_front key p e xs zero (λ k below. absurd (omega (arith, below)))
    (λ k above below. fails (suc k) (omega arith) (omega (arith, below)))) where
      at : (a : Bool) → a ≡ false → filter (λ y. p (key y)) xs ≡ [] → cond a (x ∷ filter (λ y. p (key y)) xs) (filter (λ y. p (key y)) xs) ≡ []
      at true h ih = absurd (true≢false h)
      at false h ih = ih
filter_front key p e (x ∷ xs) (suc n) passes fails = at (p (key x)) (passes 0 (omega arith) (omega arith))
    (filter_front key p e xs n (λ k less below. passes (suc k) (omega (arith, less)) (omega (arith, below)))
    (λ k above below. fails (suc k) (omega (arith, above)) (omega (arith, below)))) where
      at : (a : Bool) → a ≡ true → filter (λ y. p (key y)) xs ≡ take n xs → cond a (x ∷ filter (λ y. p (key y)) xs) (filter (λ y. p (key y)) xs) ≡ x ∷ take n xs
      at true h ih = ap (λ ys. x ∷ ys) ih
      at false h ih = absurd (true≢false (sym h))

pub filter_back : {X K : Type 0} (key : X → K) (p : K → Bool) (e : K) (xs : List X) (n : ℕ)
    → ((k : ℕ) → k < n → k < length xs → p (get_or (map key xs) k e) ≡ false)
    → ((k : ℕ) → n ≤ k → k < length xs → p (get_or (map key xs) k e) ≡ true) → filter (λ x. p (key x)) xs ≡ drop n xs
filter_back key p e [] zero fails passes = refl
filter_back key p e [] (suc n) fails passes = refl
filter_back key p e (x ∷ xs) zero fails passes =
    at (p (key x)) (passes 0 (omega arith) (omega arith))
    (filter_back key p e xs zero (λ k below. absurd (omega (arith, below)))
    (λ k above below. passes (suc k) (omega arith) (omega (arith, below)))) where
      at : (a : Bool) → a ≡ true → filter (λ y. p (key y)) xs ≡ xs → cond a (x ∷ filter (λ y. p (key y)) xs) (filter (λ y. p (key y)) xs) ≡ x ∷ xs
      at true h ih = ap (λ ys. x ∷ ys) ih
      at false h ih = absurd (true≢false (sym h))
filter_back key p e (x ∷ xs) (suc n) fails passes = at (p (key x)) (fails 0 (omega arith) (omega arith))
    (filter_back key p e xs n (λ k less below. fails (suc k) (omega (arith, less)) (omega (arith, below)))
    (λ k above below. passes (suc k) (omega (arith, above)) (omega (arith, below)))) where
      at : (a : Bool) → a ≡ false → filter (λ y. p (key y)) xs ≡ drop n xs → cond a (x ∷ filter (λ y. p (key y)) xs) (filter (λ y. p (key y)) xs) ≡ drop n xs
      at true h ih = absurd (true≢false h)
      at false h ih = ih

-- What lies before a place stands first, then what lies at it, then what lies behind.
pub record ArePlaced {X K : Type 0} (key : X → K) (place : K → Ordering) (e : K) (xs : List X) : Type 0 where
  pub equal : (i j : ℕ) → i < j → j < length xs → place (get_or (map key xs) i e) ≡ Equal → is_lt (place (get_or (map key xs) j e)) ≡ false
  pub behind : (i j : ℕ) → i < j → j < length xs → place (get_or (map key xs) i e) ≡ Greater → place (get_or (map key xs) j e) ≡ Greater

tail_placed : {X K : Type 0} (key : X → K) (place : K → Ordering) (e : K) (x : X) (xs : List X) → ArePlaced key place e (x ∷ xs) → ArePlaced key place e xs
tail_placed key place e x xs h = record {
  equal = λ i j less below. h.equal (suc i) (suc j) (omega (arith, less)) (omega (arith, below));
  behind = λ i j less below. h.behind (suc i) (suc j) (omega (arith, less)) (omega (arith, below));
}

none_front : {X K : Type 0} (key : X → K) (p : K → Bool) (e : K) (xs : List X) → ((k : ℕ) → k < length xs → p (get_or (map key xs) k e) ≡ false)
    → filter (λ x. p (key x)) xs ≡ []
none_front key p e xs fails = filter_front key p e xs 0 (λ k below. absurd (omega (arith, below))) (λ k above below. fails k below)

in_parts : {X K : Type 0} (key : X → K) (place : K → Ordering) (e : K) (xs : List X) → ArePlaced key place e xs
    → filter (λ x. is_lt (place (key x))) xs ++ (filter (λ x. is_eq (place (key x))) xs ++ filter (λ x. is_gt (place (key x))) xs) ≡ xs
in_parts key place e [] h = refl
in_parts {X} {K} key place e (x ∷ xs) h = at (place (key x)) refl (in_parts key place e xs (tail_placed key place e x xs h)) where
  at : (o : Ordering) → place (key x) ≡ o
      → filter (λ y. is_lt (place (key y))) xs ++ (filter (λ y. is_eq (place (key y))) xs ++ filter (λ y. is_gt (place (key y))) xs) ≡ xs
      → cond (is_lt o) (x ∷ filter (λ y. is_lt (place (key y))) xs) (filter (λ y. is_lt (place (key y))) xs)
      ++ (cond (is_eq o) (x ∷ filter (λ y. is_eq (place (key y))) xs) (filter (λ y. is_eq (place (key y))) xs)
      ++ cond (is_gt o) (x ∷ filter (λ y. is_gt (place (key y))) xs) (filter (λ y. is_gt (place (key y))) xs)) ≡ x ∷ xs
  at Less is ih = ap (λ ys. x ∷ ys) ih
  at Equal is ih = ap (λ ys. ys ++ (x ∷ filter (λ y. is_eq (place (key y))) xs ++ filter (λ y. is_gt (place (key y))) xs)) none
      ∙ ap (λ ys. x ∷ ys) (sym (ap (λ ys. ys ++ (filter (λ y. is_eq (place (key y))) xs ++ filter (λ y. is_gt (place (key y))) xs)) none) ∙ ih) where
        none : filter (λ y. is_lt (place (key y))) xs ≡ []
        none = none_front key (λ k. is_lt (place k)) e xs (λ k below. h.equal 0 (suc k) (omega arith) (omega (arith, below)) is)
  at Greater is ih = ap₂ (λ ys zs. ys ++ (zs ++ x ∷ filter (λ y. is_gt (place (key y))) xs)) front middle
      ∙ ap (λ ys. x ∷ ys) (sym (ap₂ (λ ys zs. ys ++ (zs ++ filter (λ y. is_gt (place (key y))) xs)) front middle) ∙ ih) where
        behind : (k : ℕ) → k < length xs → place (get_or (map key xs) k e) ≡ Greater
        behind k below = h.behind 0 (suc k) (omega arith) (omega (arith, below)) is

        front : filter (λ y. is_lt (place (key y))) xs ≡ []
        front = none_front key (λ k. is_lt (place k)) e xs (λ k below. ap is_lt (behind k below))

        middle : filter (λ y. is_eq (place (key y))) xs ≡ []
        middle = none_front key (λ k. is_eq (place k)) e xs (λ k below. ap is_eq (behind k below))

-- two filters in the other order
turned : {X : Type 0} (p q r : X → Bool) (xs : List X) → ((x : X) → q x ≡ true → p x ≡ r x) → filter p (filter q xs) ≡ filter q (filter r xs)
turned p q r [] same = refl
turned p q r (x ∷ xs) same = at (q x) refl (r x) refl (turned p q r xs same) where
  at : (b : Bool) → q x ≡ b → (c : Bool) → r x ≡ c → filter p (filter q xs) ≡ filter q (filter r xs)
      → filter p (cond b (x ∷ filter q xs) (filter q xs)) ≡ filter q (cond c (x ∷ filter r xs) (filter r xs))
  at true passes true has ih = ap (λ a. cond a (x ∷ filter p (filter q xs)) (filter p (filter q xs))) (same x passes ∙ has) ∙ ap (λ ys. x ∷ ys) ih
      ∙ sym (ap (λ a. cond a (x ∷ filter q (filter r xs)) (filter q (filter r xs))) passes)
  at true passes false has ih = ap (λ a. cond a (x ∷ filter p (filter q xs)) (filter p (filter q xs))) (same x passes ∙ has) ∙ ih
  at false fails true has ih = ih ∙ sym (ap (λ a. cond a (x ∷ filter q (filter r xs)) (filter q (filter r xs))) fails)
  at false fails false has ih = ih

pub one_fewer : {X K : Type 0} (key : X → K) (place : K → Ordering) (e : K) (others : X → Bool) (ys xs : List X) → ArePlaced key place e ys
    → filter (λ x. not (is_eq (place (key x)) || others x)) ys ≡ filter (λ x. not (is_eq (place (key x)) || others x)) xs
    → filter (λ x. not (others x)) ys
    ≡ filter (λ x. not (others x))
    (filter (λ x. is_lt (place (key x))) xs ++ (filter (λ x. is_eq (place (key x))) ys ++ filter (λ x. is_gt (place (key x))) xs))
one_fewer {X} {K} key place e others ys xs placed same =
    ap left (sym (in_parts key place e ys placed)) ∙ parts ys ∙ ap₂ (λ zs bs. zs ++ (left (filter (λ x. is_eq (place (key x))) ys) ++ bs)) front back
    ∙ sym (parts xs) where
      left : List X → List X
      left zs = filter (λ x. not (others x)) zs

      parts : (zs : List X) → left (filter (λ x. is_lt (place (key x))) zs
          ++ (filter (λ x. is_eq (place (key x))) ys ++ filter (λ x. is_gt (place (key x))) zs))
          ≡ left (filter (λ x. is_lt (place (key x))) zs) ++ (left (filter (λ x. is_eq (place (key x))) ys) ++ left (filter (λ x. is_gt (place (key x))) zs))
      parts zs = filter-append (λ x. not (others x)) (filter (λ x. is_lt (place (key x))) zs)
          (filter (λ x. is_eq (place (key x))) ys ++ filter (λ x. is_gt (place (key x))) zs)
          ∙ ap (λ bs. left (filter (λ x. is_lt (place (key x))) zs) ++ bs)
          (filter-append (λ x. not (others x)) (filter (λ x. is_eq (place (key x))) ys) (filter (λ x. is_gt (place (key x))) zs))

      before : (o : Ordering) (b : Bool) → is_lt o ≡ true → not b ≡ not (is_eq o || b)
      before Less b h = refl
      before Equal b h = absurd (true≢false (sym h))
      before Greater b h = absurd (true≢false (sym h))

      behind : (o : Ordering) (b : Bool) → is_gt o ≡ true → not b ≡ not (is_eq o || b)
      behind Less b h = absurd (true≢false (sym h))
      behind Equal b h = absurd (true≢false (sym h))
      behind Greater b h = refl

      fronts : (zs : List X) → left (filter (λ x. is_lt (place (key x))) zs)
          ≡ filter (λ x. is_lt (place (key x))) (filter (λ x. not (is_eq (place (key x)) || others x)) zs)
      fronts zs = turned (λ x. not (others x)) (λ x. is_lt (place (key x))) (λ x. not (is_eq (place (key x)) || others x)) zs
          (λ x h. before (place (key x)) (others x) h)

      backs : (zs : List X) → left (filter (λ x. is_gt (place (key x))) zs)
          ≡ filter (λ x. is_gt (place (key x))) (filter (λ x. not (is_eq (place (key x)) || others x)) zs)
      backs zs = turned (λ x. not (others x)) (λ x. is_gt (place (key x))) (λ x. not (is_eq (place (key x)) || others x)) zs
          (λ x h. behind (place (key x)) (others x) h)

      front : left (filter (λ x. is_lt (place (key x))) ys) ≡ left (filter (λ x. is_lt (place (key x))) xs)
      front = fronts ys ∙ ap (λ zs. filter (λ x. is_lt (place (key x))) zs) same ∙ sym (fronts xs)

      back : left (filter (λ x. is_gt (place (key x))) ys) ≡ left (filter (λ x. is_gt (place (key x))) xs)
      back = backs ys ∙ ap (λ zs. filter (λ x. is_gt (place (key x))) zs) same ∙ sym (backs xs)
