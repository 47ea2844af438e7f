-- Where a key stands in the order.
use Rattle.std.proofs.Common.{take_all}
use Rattle.fs_flows.proofs.Words.{ℕ, zero, suc, ◌≡◌, ◌+◌, ◌<◌, ◌≤◌, refl, sym, ap, subst, ◌∙◌, Bool, true, false, true≢false, ◌&&◌, ◌||◌, List, []}
use Rattle.fs_flows.proofs.Words.{◌∷◌, length, get_or, drop, take, ◌-◌, length-drop, Ordering, Less, Equal, Greater, nat_cmp, arith, AllByRecursion}
use Rattle.fs_flows.proofs.Words.{AllWithin, IsPartitionedBy, match_ordering, ordering_then, ordering_reverse, is_gt, nat_tests, each_of_map}
use Rattle.fs_flows.proofs.Words.{each_weaker, Ruled, FlowRoute, preferred, Kept, key_cmp, is_valid, same_rule, beats, routes_of, AreSorted, place_in}
use Rattle.fs_flows.proofs.Placing.{pair_total}

abbrev pub is_after : Ruled → ℕ → Kept → Bool
is_after rule peer k = is_gt (key_cmp rule peer k.route)

greater_is : (o : Ordering) → is_gt o ≡ true → o ≡ Greater
greater_is Less h = absurd (true≢false (sym h))
greater_is Equal h = absurd (true≢false (sym h))
greater_is Greater h = refl

-- what stands before something before a key stands before the key
after_earlier : (rule : Ruled) (peer : ℕ) (x y : FlowRoute) → key_cmp x.rule x.peer y ≡ Less → is_gt (key_cmp rule peer y) ≡ true
    → is_gt (key_cmp rule peer x) ≡ true
after_earlier rule peer x y h k =
    ap is_gt (pair_total.antisymm (rule, peer) (x.rule, x.peer)
    ∙ ap ordering_reverse (pair_total.trans (x.rule, x.peer) (y.rule, y.peer) (rule, peer) h (pair_total.antisymm (y.rule, y.peer) (rule, peer)
    ∙ ap ordering_reverse (greater_is (key_cmp rule peer y) k))))

each_at : (P : FlowRoute → Type 0) (xs : List Kept) (j : ℕ) (d : Kept) → AllByRecursion P (routes_of xs) → j < length xs → P (get_or xs j d).route
each_at P [] j d h k = absurd (omega arith)
each_at P (x ∷ xs) zero d h k = h.0
each_at P (x ∷ xs) (suc j) d h k = each_at P xs j d h.1 (omega arith)

pub partitioned : (rule : Ruled) (peer : ℕ) (xs : List Kept) → AreSorted (routes_of xs) → IsPartitionedBy (is_after rule peer) xs
partitioned rule peer [] sorted i j d h k = absurd (omega arith)
partitioned rule peer (x ∷ xs) sorted zero zero d h k = λ e. e
partitioned rule peer (x ∷ xs) sorted zero (suc j) d h k =
    λ e. after_earlier rule peer x.route (get_or xs j d).route (each_at (λ s. key_cmp x.route.rule x.route.peer s ≡ Less) xs j d sorted.0 (omega arith))
    e
partitioned rule peer (x ∷ xs) sorted (suc i) zero d h k = absurd (omega arith)
partitioned rule peer (x ∷ xs) sorted (suc i) (suc j) d h k = partitioned rule peer xs sorted.1 i j d (omega arith) (omega arith)

pub place_from : (rule : Ruled) (peer : ℕ) (xs : List Kept) (i : ℕ) → i ≤ length xs → AllWithin (λ y. is_after rule peer y ≡ true) xs 0 i
    → AllWithin (λ y. is_after rule peer y ≡ false) xs i (length xs) → i ≡ place_in rule peer xs
place_from rule peer [] i h front back = omega arith
place_from rule peer (x ∷ xs) zero h front back = at (key_cmp rule peer x.route) refl where
  at : (o : Ordering) → key_cmp rule peer x.route ≡ o → 0 ≡ match_ordering o 0 0 (1 + place_in rule peer xs)
  at Less e = refl
  at Equal e = refl
  at Greater e = absurd (true≢false (sym (ap is_gt e) ∙ back 0 x (omega arith) (omega arith)))
place_from rule peer (x ∷ xs) (suc i) h front back =
    at (key_cmp rule peer x.route) refl
    (place_from rule peer xs i (omega arith) (λ k d low high. front (suc k) d (omega arith) (omega arith))
    (λ k d low high. back (suc k) d (omega arith) (omega arith))) where
      at : (o : Ordering) → key_cmp rule peer x.route ≡ o → i ≡ place_in rule peer xs → suc i ≡ match_ordering o 0 0 (1 + place_in rule peer xs)
      at Less e rest = absurd (true≢false (sym (front 0 x (omega arith) (omega arith)) ∙ ap is_gt e))
      at Equal e rest = absurd (true≢false (sym (front 0 x (omega arith) (omega arith)) ∙ ap is_gt e))
      at Greater e rest = omega arith

-- The routes of a rule.
-- before the least key of a rule stands no route of it
pub least_after : (o : Ordering) (n : ℕ) → ordering_then o (nat_cmp 0 n) ≡ Greater → o ≡ Greater
least_after Less n h = cc
least_after Equal n h = absurd (grind (arith, nat_tests))
least_after Greater n h = refl

pub no_rival : (k x : Kept) (rest : Bool) → same_rule x.route k.route ≡ false → ((is_valid x.validity && beats x.route k.route) || rest) ≡ rest
no_rival k x rest h = at (is_valid x.validity) (same_rule x.route k.route) h where
  at : (a b : Bool) → b ≡ false → ((a && (b && preferred (x.route.peer, x.route.path) (k.route.peer, k.route.path))) || rest) ≡ rest
  at true true e = absurd (true≢false e)
  at false true e = refl
  at true false e = refl
  at false false e = refl

-- from the place on no route stands before the key
abbrev pub NotBefore : Kept → Kept → Type 0
NotBefore k s = is_after k.route.rule 0 s ≡ false

pub not_after_later : (k x y : Kept) → NotBefore k x → key_cmp x.route.rule x.route.peer y.route ≡ Less → NotBefore k y
not_after_later k x y h less = at (is_after k.route.rule 0 y) refl where
  at : (b : Bool) → is_after k.route.rule 0 y ≡ b → is_after k.route.rule 0 y ≡ false
  at true e = absurd (true≢false (sym (after_earlier k.route.rule 0 x.route y.route less e) ∙ h))
  at false e = e

pub not_before : (k : Kept) (xs : List Kept) → AreSorted (routes_of xs) → AllByRecursion (NotBefore k) (drop (place_in k.route.rule 0 xs) xs)
not_before k [] sorted = tt
not_before k (x ∷ xs) sorted = at (key_cmp k.route.rule 0 x.route) refl (not_before k xs sorted.1) where
  all : NotBefore k x → AllByRecursion (NotBefore k) (x ∷ xs)
  all h = (
    h,
    each_weaker (λ s. key_cmp x.route.rule x.route.peer s.route ≡ Less) (NotBefore k) (λ s less. not_after_later k x s h less) xs
        (each_of_map (λ k. k.route) (λ s. key_cmp x.route.rule x.route.peer s ≡ Less) xs sorted.0),
  )

  at : (o : Ordering) → key_cmp k.route.rule 0 x.route ≡ o → AllByRecursion (NotBefore k) (drop (place_in k.route.rule 0 xs) xs)
      → AllByRecursion (NotBefore k) (drop (match_ordering o 0 0 (1 + place_in k.route.rule 0 xs)) (x ∷ xs))
  at Less e ih = all (ap is_gt e)
  at Equal e ih = all (ap is_gt e)
  at Greater e ih = subst (λ n. AllByRecursion (NotBefore k) (drop n (x ∷ xs))) (sym next) ih where
    next : 1 + place_in k.route.rule 0 xs ≡ suc (place_in k.route.rule 0 xs)
    next = omega arith

-- a slice from a place on
pub tail_is : {X : Type 0} (xs : List X) (n : ℕ) → take (length xs - n) (drop n xs) ≡ drop n xs
tail_is xs n = take_all (length xs - n) (drop n xs) (omega (arith, length-drop n xs))
