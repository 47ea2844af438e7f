-- A route in its place in the order.
use Rattle.fs_flows.proofs.Words.{ℕ, zero, suc, ◌≡◌, ◌+◌, ◌<◌, refl, sym, ap, ◌∙◌, Bool, true, false, true≢false, not, ◌||◌, cond, List, [], ◌∷◌}
use Rattle.fs_flows.proofs.Words.{◌++◌, length, insert, remove, set, get_or, slice_get, Ordering, Less, Equal, Greater, is_eq, nat_cmp, filter, arith}
use Rattle.fs_flows.proofs.Words.{zero-add, match_ordering, ordering_then, Ruled, Kept, key_cmp, is_key, related_count, put_kept, place_in}
use Rattle.fs_flows.proofs.Words.{has_key_at, AreSorted, routes_of, is_other_key, Prefix, get_or_default, list_any, AllByRecursion, IsTotalOrder}
use Rattle.fs_flows.proofs.Words.{on_total, then_total, nat_cmp_total, each_weaker, each_none, each_of_map, none_each, rule_cmp, rule_total}
use Rattle.fs_flows.proofs.Changed.{all_stay}

-- over the element at the place, where it has the key
pub put_over : (k : Kept) (xs : List Kept) → has_key_at k.route.rule k.route.peer (slice_get xs (place_in k.route.rule k.route.peer xs)) ≡ true
    → set xs (place_in k.route.rule k.route.peer xs) k ≡ put_kept k xs
put_over k [] h = absurd (true≢false (sym h))
put_over k (x ∷ xs) h = at (key_cmp k.route.rule k.route.peer x.route) refl (put_over k xs) h where
  at : (o : Ordering) → key_cmp k.route.rule k.route.peer x.route ≡ o
      → (has_key_at k.route.rule k.route.peer (slice_get xs (place_in k.route.rule k.route.peer xs)) ≡ true
      → set xs (place_in k.route.rule k.route.peer xs) k ≡ put_kept k xs)
      → has_key_at k.route.rule k.route.peer (slice_get (x ∷ xs) (match_ordering o 0 0 (1 + place_in k.route.rule k.route.peer xs))) ≡ true
      → set (x ∷ xs) (match_ordering o 0 0 (1 + place_in k.route.rule k.route.peer xs)) k ≡ match_ordering o (k ∷ x ∷ xs) (k ∷ xs) (x ∷ put_kept k xs)
  at Less e ih g = absurd (true≢false (sym g ∙ ap is_eq e))
  at Equal e ih g = refl
  at Greater e ih g = ap (λ n. set (x ∷ xs) n k) next
      ∙ ap (λ ys. x ∷ ys) (ih (sym (ap (λ n. has_key_at k.route.rule k.route.peer (slice_get (x ∷ xs) n)) next) ∙ g)) where
        next : 1 + place_in k.route.rule k.route.peer xs ≡ suc (place_in k.route.rule k.route.peer xs)
        next = omega arith

pub put_into : (k : Kept) (xs : List Kept) → has_key_at k.route.rule k.route.peer (slice_get xs (place_in k.route.rule k.route.peer xs)) ≡ false
    → insert xs (place_in k.route.rule k.route.peer xs) k ≡ put_kept k xs
put_into k [] h = refl
put_into k (x ∷ xs) h = at (key_cmp k.route.rule k.route.peer x.route) refl (put_into k xs) h where
  at : (o : Ordering) → key_cmp k.route.rule k.route.peer x.route ≡ o
      → (has_key_at k.route.rule k.route.peer (slice_get xs (place_in k.route.rule k.route.peer xs)) ≡ false
      → insert xs (place_in k.route.rule k.route.peer xs) k ≡ put_kept k xs)
      → has_key_at k.route.rule k.route.peer (slice_get (x ∷ xs) (match_ordering o 0 0 (1 + place_in k.route.rule k.route.peer xs))) ≡ false
      → insert (x ∷ xs) (match_ordering o 0 0 (1 + place_in k.route.rule k.route.peer xs)) k ≡ match_ordering o (k ∷ x ∷ xs) (k ∷ xs) (x ∷ put_kept k xs)
  at Less e ih g = refl
  at Equal e ih g = absurd (true≢false (sym (ap is_eq e) ∙ g))
  at Greater e ih g = ap (λ n. insert (x ∷ xs) n k) next
      ∙ ap (λ ys. x ∷ ys) (ih (sym (ap (λ n. has_key_at k.route.rule k.route.peer (slice_get (x ∷ xs) n)) next) ∙ g)) where
        next : 1 + place_in k.route.rule k.route.peer xs ≡ suc (place_in k.route.rule k.route.peer xs)
        next = omega arith

-- how many are related, in parts
pub related-append : (p : Prefix) (xs ys : List Kept) → related_count p (routes_of (xs ++ ys)) ≡ related_count p (routes_of xs) + related_count p (routes_of ys)
related-append p [] ys = sym (zero-add (related_count p (routes_of ys)))
related-append p (x ∷ xs) ys = let e : related_count p (routes_of (xs ++ ys)) ≡ related_count p (routes_of xs) + related_count p (routes_of ys) =
    related-append p xs ys in omega arith

-- the element at a place doesn't depend on what stands for a missing one
pub get_or_again : {X : Type 0} (xs : List X) (i : ℕ) (d : X) → i < length xs → get_or xs i d ≡ get_or xs i (get_or xs i d)
get_or_again xs i d h = get_or_default xs i d (get_or xs i d) h

-- What stands at the place of a key, of routes in order.
abbrev pub pair_cmp : Ruled × ℕ → Ruled × ℕ → Ordering
pair_cmp a b = ordering_then (rule_cmp a.0 b.0) (nat_cmp a.1 b.1)

pub pair_total : IsTotalOrder pair_cmp
pair_total = then_total (on_total (λ (a : Ruled × ℕ). a.0) rule_total) (on_total (λ (a : Ruled × ℕ). a.1) nat_cmp_total)

abbrev hits : Ruled → ℕ → Kept → Bool
hits rule peer k = is_key rule peer k.route

-- behind a route that isn't before the key none has the key
none_behind_less : (rule : Ruled) (peer : ℕ) (x : Kept) (xs : List Kept) → key_cmp rule peer x.route ≡ Less
    → AllByRecursion (λ s. key_cmp x.route.rule x.route.peer s ≡ Less) (routes_of xs) → AllByRecursion (λ k. hits rule peer k ≡ false) xs
none_behind_less rule peer x xs e h = each_weaker (λ y. key_cmp x.route.rule x.route.peer y.route ≡ Less) (λ y. hits rule peer y ≡ false)
    (λ y less. ap is_eq (pair_total.trans (rule, peer) (x.route.rule, x.route.peer) (y.route.rule, y.route.peer) e less)) xs
    (each_of_map (λ k. k.route) (λ s. key_cmp x.route.rule x.route.peer s ≡ Less) xs h)

none_behind_equal : (rule : Ruled) (peer : ℕ) (x : Kept) (xs : List Kept) → key_cmp rule peer x.route ≡ Equal
    → AllByRecursion (λ s. key_cmp x.route.rule x.route.peer s ≡ Less) (routes_of xs) → AllByRecursion (λ k. hits rule peer k ≡ false) xs
none_behind_equal rule peer x xs e h = each_weaker (λ y. key_cmp x.route.rule x.route.peer y.route ≡ Less) (λ y. hits rule peer y ≡ false)
    (λ y less. ap is_eq (pair_total.congr (rule, peer) (x.route.rule, x.route.peer) (y.route.rule, y.route.peer) e ∙ less)) xs
    (each_of_map (λ k. k.route) (λ s. key_cmp x.route.rule x.route.peer s ≡ Less) xs h)

pub any_here : (rule : Ruled) (peer : ℕ) (xs : List Kept) → AreSorted (routes_of xs)
    → has_key_at rule peer (slice_get xs (place_in rule peer xs)) ≡ list_any (λ k. is_key rule peer k.route) xs
any_here rule peer [] sorted = refl
any_here rule peer (x ∷ xs) sorted = at (key_cmp rule peer x.route) refl (any_here rule peer xs sorted.1) where
  at : (o : Ordering) → key_cmp rule peer x.route ≡ o
      → has_key_at rule peer (slice_get xs (place_in rule peer xs)) ≡ list_any (λ k. is_key rule peer k.route) xs
      → has_key_at rule peer (slice_get (x ∷ xs) (match_ordering o 0 0 (1 + place_in rule peer xs))) ≡ (is_eq o || list_any (λ k. is_key rule peer k.route) xs)
  at Less e ih = ap is_eq e ∙ sym (each_none (λ k. is_key rule peer k.route) xs (none_behind_less rule peer x xs e sorted.0))
  at Equal e ih = ap is_eq e
  at Greater e ih = ap (λ n. has_key_at rule peer (slice_get (x ∷ xs) n)) (let s : 1 + place_in rule peer xs ≡ suc (place_in rule peer xs) =
      omega arith in s) ∙ ih

pub take_here : (rule : Ruled) (peer : ℕ) (xs : List Kept) → AreSorted (routes_of xs)
    → has_key_at rule peer (slice_get xs (place_in rule peer xs)) ≡ true → remove xs (place_in rule peer xs) ≡ filter (is_other_key rule peer) xs
take_here rule peer [] sorted h = absurd (true≢false (sym h))
take_here rule peer (x ∷ xs) sorted h = at (key_cmp rule peer x.route) refl h (take_here rule peer xs sorted.1) where
  at : (o : Ordering) → key_cmp rule peer x.route ≡ o → has_key_at rule peer (slice_get (x ∷ xs) (match_ordering o 0 0 (1 + place_in rule peer xs))) ≡ true
      → (has_key_at rule peer (slice_get xs (place_in rule peer xs)) ≡ true → remove xs (place_in rule peer xs) ≡ filter (is_other_key rule peer) xs)
      → remove (x ∷ xs) (match_ordering o 0 0 (1 + place_in rule peer xs))
      ≡ cond (not (is_eq o)) (x ∷ filter (is_other_key rule peer) xs) (filter (is_other_key rule peer) xs)
  at Less e g ih = absurd (true≢false (sym g ∙ ap is_eq e))
  at Equal e g ih = sym (all_stay (hits rule peer) xs (none_behind_equal rule peer x xs e sorted.0))
  at Greater e g ih = ap (remove (x ∷ xs)) next ∙ ap (λ ys. x ∷ ys) (ih (sym (ap (λ n. has_key_at rule peer (slice_get (x ∷ xs) n)) next) ∙ g)) where
    next : 1 + place_in rule peer xs ≡ suc (place_in rule peer xs)
    next = omega arith

pub none_here : (rule : Ruled) (peer : ℕ) (xs : List Kept) → list_any (λ k. is_key rule peer k.route) xs ≡ false → xs ≡ filter (is_other_key rule peer) xs
none_here rule peer xs h = sym (all_stay (hits rule peer) xs (none_each (λ k. is_key rule peer k.route) xs h))

pub inside_from_key : (rule : Ruled) (peer : ℕ) (xs : List Kept) (n : ℕ) → has_key_at rule peer (slice_get xs n) ≡ true → n < length xs
inside_from_key rule peer [] n h = absurd (true≢false (sym h))
inside_from_key rule peer (x ∷ xs) zero h = omega arith
inside_from_key rule peer (x ∷ xs) (suc n) h = let e : n < length xs = inside_from_key rule peer xs n h in omega arith
