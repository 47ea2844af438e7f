-- A route put into the group of its destination stands in its place among all.
use Rattle.fs_flows.proofs.Words.{suc, ◌≡◌, ◌+◌, ◌≤◌, refl, sym, ap, subst, ◌∙◌, Bool, true, false, cond, List, [], ◌∷◌, ◌++◌, length, Option, Some}
use Rattle.fs_flows.proofs.Words.{None, Ordering, Less, Equal, Greater, is_eq, arith, AllByRecursion, insert_entry, is_at, keys_of, lookup, set_value}
use Rattle.fs_flows.proofs.Words.{match_ordering, ordering_reverse, sorted_head, sorted_tail, same_Some, Family, Prefix, prefix_cmp, prefix_total}
use Rattle.fs_flows.proofs.Words.{each_weaker, same_from_cmp, Kept, key_cmp, put_kept, AreSorted, routes_of, Entry, kept_in, IsTo, ArePlaced}
use Rattle.fs_flows.proofs.Words.{AreInOrder, IsSound, put_entry, HasSortedGroups, RuleBefore}
use Rattle.fs_flows.proofs.Apart.{key_less, key_greater, each_front, each_back, behind_each, before_behind, to_cmp, earlier}
use Rattle.fs_flows.proofs.Changed.{each-put}

-- a route before all of the second list goes into the first
pub put_left : (k : Kept) (xs ys : List Kept) → AllByRecursion (RuleBefore k) ys → put_kept k (xs ++ ys) ≡ put_kept k xs ++ ys
put_left k [] [] h = refl
put_left k [] (y ∷ ys) h = ap (λ o. match_ordering o (k ∷ y ∷ ys) (k ∷ ys) (y ∷ put_kept k ys)) (key_less k y h.0)
put_left k (x ∷ xs) ys h = at (key_cmp k.route.rule k.route.peer x.route) (put_left k xs ys h) where
  at : (o : Ordering) → put_kept k (xs ++ ys) ≡ put_kept k xs ++ ys
      → match_ordering o (k ∷ x ∷ (xs ++ ys)) (k ∷ (xs ++ ys)) (x ∷ put_kept k (xs ++ ys)) ≡ match_ordering o (k ∷ x ∷ xs) (k ∷ xs) (x ∷ put_kept k xs)
      ++ ys
  at Less ih = refl
  at Equal ih = refl
  at Greater ih = ap (λ zs. x ∷ zs) ih

-- a route behind all of the first list goes into the second
pub put_right : (k : Kept) (xs ys : List Kept) → AllByRecursion (λ x. RuleBefore x k) xs → put_kept k (xs ++ ys) ≡ xs ++ put_kept k ys
put_right k [] ys h = refl
put_right k (x ∷ xs) ys h = ap (λ o. match_ordering o (k ∷ x ∷ (xs ++ ys)) (k ∷ (xs ++ ys)) (x ∷ put_kept k (xs ++ ys))) (key_greater x k h.0)
    ∙ ap (λ zs. x ∷ zs) (put_right k xs ys h.1)

-- the routes of an earlier group stand before a route
group_before_route : (family : Family) (e : Entry) (k : Kept) (q : Option Prefix) → IsSound family k → IsTo q k → to_cmp (Some e.0) q ≡ Less
    → AllByRecursion (IsSound family) e.1 → AllByRecursion (IsTo (Some e.0)) e.1 → AllByRecursion (λ x. RuleBefore x k) e.1
group_before_route family (p, xs) k q h d less sound placed = go xs sound placed where
  go : (xs : List Kept) → AllByRecursion (IsSound family) xs → AllByRecursion (IsTo (Some p)) xs → AllByRecursion (λ x. RuleBefore x k) xs
  go [] s t = tt
  go (x ∷ xs) s t = (earlier family x k (Some p) q s.0 h t.0 d less, go xs s.1 t.1)

swapped : (p q : Prefix) → prefix_cmp p q ≡ Greater → prefix_cmp q p ≡ Less
swapped p q h = prefix_total.antisymm q p ∙ ap ordering_reverse h

pub equal_test : (p q : Prefix) → prefix_cmp p q ≡ Equal → p ≡ q
equal_test p q h = same_from_cmp p q (ap is_eq h)

pub put_entries : (family : Family) (p : Prefix) (k : Kept) (es : List Entry) (rest : List Kept) → IsSound family k → IsTo (Some p) k → AreInOrder es
    → ArePlaced es → AllByRecursion (IsTo None) rest → AllByRecursion (IsSound family) (kept_in es rest)
    → kept_in (put_entry p k es) rest ≡ put_kept k (kept_in es rest)
put_entries family p k [] rest h d ordered placed bare sound =
    sym (put_left k [] rest (before_behind family (Some p) k h d rest sound (behind_each p [] rest tt tt bare)))
put_entries family p k (e ∷ es) rest h d ordered placed bare sound =
    at (prefix_cmp p e.0) refl (put_entries family p k es rest h d (sorted_tail prefix_cmp e.0 (keys_of es) ordered) placed.1 bare
    (each_back (IsSound family) e.1 (kept_in es rest) sound)) where
      later : List Kept
      later = kept_in es rest

      later_sound : AllByRecursion (IsSound family) later
      later_sound = each_back (IsSound family) e.1 later sound

      heads : AllByRecursion (λ q. prefix_cmp e.0 q ≡ Less) (keys_of es)
      heads = sorted_head prefix_cmp e.0 (keys_of es) ordered

      at : (o : Ordering) → prefix_cmp p e.0 ≡ o → kept_in (put_entry p k es) rest ≡ put_kept k later
          → kept_in (match_ordering o ((p, k ∷ []) ∷ e ∷ es) ((e.0, put_kept k e.1) ∷ es) (e ∷ put_entry p k es)) rest ≡ put_kept k (e.1 ++ later)
      at Less less ih = sym (put_left k [] (e.1 ++ later)
          (before_behind family (Some p) k h d (e.1 ++ later) sound
          (behind_each p (e ∷ es) rest (
            less,
            each_weaker (λ q. prefix_cmp e.0 q ≡ Less) (λ q. prefix_cmp p q ≡ Less) (λ q g. prefix_total.trans p e.0 q less g) (keys_of es) heads,
          ) placed
          bare)))
      at Equal same ih = sym (put_left k e.1 later
          (before_behind family (Some p) k h d later later_sound
          (behind_each p es rest (subst (λ q. AllByRecursion (λ r. prefix_cmp q r ≡ Less) (keys_of es)) (sym (equal_test p e.0 same)) heads) placed.1
          bare)))
      at Greater more ih = ap (λ zs. e.1 ++ zs) ih
          ∙ sym (put_right k e.1 later
          (group_before_route family e k (Some p) h d (swapped p e.0 more) (each_front (IsSound family) e.1 later sound) placed.0))

-- a route without a destination stands behind all groups
pub put_rest : (family : Family) (k : Kept) (es : List Entry) (rest : List Kept) → IsSound family k → IsTo None k → ArePlaced es
    → AllByRecursion (IsSound family) (kept_in es rest) → kept_in es (put_kept k rest) ≡ put_kept k (kept_in es rest)
put_rest family k [] rest h d placed sound = refl
put_rest family k (e ∷ es) rest h d placed sound =
    ap (λ zs. e.1 ++ zs) (put_rest family k es rest h d placed.1 (each_back (IsSound family) e.1 (kept_in es rest) sound))
    ∙ sym (put_right k e.1 (kept_in es rest) (group_before_route family e k None h d refl (each_front (IsSound family) e.1 (kept_in es rest) sound) placed.0))

-- a key that is found stands behind the first
found_behind : (p q : Prefix) (group : List Kept) (es : List Entry) → AllByRecursion (λ r. prefix_cmp q r ≡ Less) (keys_of es)
    → lookup (is_at (prefix_cmp p)) es ≡ Some group → prefix_cmp q p ≡ Less
found_behind p q group [] g f = cc
found_behind p q group (x ∷ xs) g f = go (is_eq (prefix_cmp p x.0)) refl f (found_behind p q group xs g.1) where
  go : (b : Bool) → is_eq (prefix_cmp p x.0) ≡ b → cond b (Some x.1) (lookup (is_at (prefix_cmp p)) xs) ≡ Some group
      → (lookup (is_at (prefix_cmp p)) xs ≡ Some group → prefix_cmp q p ≡ Less) → prefix_cmp q p ≡ Less
  go true t f ih = subst (λ r. prefix_cmp q r ≡ Less) (sym (same_from_cmp p x.0 t)) g.0
  go false t f ih = ih f

not_first : (p : Prefix) (e : Entry) (group : List Kept) (es : List Entry) → AreInOrder (e ∷ es) → prefix_cmp p e.0 ≡ Less
    → lookup (is_at (prefix_cmp p)) es ≡ Some group → ⊥
not_first p e group es ordered less f =
    no (sym less ∙ (prefix_total.antisymm p e.0
    ∙ ap ordering_reverse (found_behind p e.0 group es (sorted_head prefix_cmp e.0 (keys_of es) ordered) f))) where
      no : Less ≡ Greater → ⊥
      no g = cc

-- the entries that the map has after its calls
pub insert_found : (p : Prefix) (v : List Kept) (es : List Entry) (group : List Kept) → AreInOrder es → lookup (is_at (prefix_cmp p)) es ≡ Some group
    → insert_entry prefix_cmp es p v ≡ set_value (is_at (prefix_cmp p)) es v
insert_found p v [] group ordered h = cc
insert_found p v (e ∷ es) group ordered h = at (prefix_cmp p e.0) refl (insert_found p v es group (sorted_tail prefix_cmp e.0 (keys_of es) ordered)) h where
  at : (o : Ordering) → prefix_cmp p e.0 ≡ o
      → (lookup (is_at (prefix_cmp p)) es ≡ Some group → insert_entry prefix_cmp es p v ≡ set_value (is_at (prefix_cmp p)) es v)
      → cond (is_eq o) (Some e.1) (lookup (is_at (prefix_cmp p)) es) ≡ Some group
      → match_ordering o ((p, v) ∷ e ∷ es) ((e.0, v) ∷ es) (e ∷ insert_entry prefix_cmp es p v)
      ≡ cond (is_eq o) ((e.0, v) ∷ es) (e ∷ set_value (is_at (prefix_cmp p)) es v)
  at Less less ih f = absurd (not_first p e group es ordered less f)
  at Equal same ih f = refl
  at Greater more ih f = ap (λ fs. e ∷ fs) (ih f)

pub put_found : (p : Prefix) (k : Kept) (es : List Entry) (group : List Kept) → AreInOrder es → lookup (is_at (prefix_cmp p)) es ≡ Some group
    → insert_entry prefix_cmp es p (put_kept k group) ≡ put_entry p k es
put_found p k [] group ordered h = cc
put_found p k (e ∷ es) group ordered h = at (prefix_cmp p e.0) refl (put_found p k es group (sorted_tail prefix_cmp e.0 (keys_of es) ordered)) h where
  at : (o : Ordering) → prefix_cmp p e.0 ≡ o
      → (lookup (is_at (prefix_cmp p)) es ≡ Some group → insert_entry prefix_cmp es p (put_kept k group) ≡ put_entry p k es)
      → cond (is_eq o) (Some e.1) (lookup (is_at (prefix_cmp p)) es) ≡ Some group
      → match_ordering o ((p, put_kept k group) ∷ e ∷ es) ((e.0, put_kept k group) ∷ es) (e ∷ insert_entry prefix_cmp es p (put_kept k group))
      ≡ match_ordering o ((p, k ∷ []) ∷ e ∷ es) ((e.0, put_kept k e.1) ∷ es) (e ∷ put_entry p k es)
  at Less less ih f = absurd (not_first p e group es ordered less f)
  at Equal same ih f = ap (λ g. (e.0, put_kept k g) ∷ es) (sym (same_Some e.1 group f))
  at Greater more ih f = ap (λ fs. e ∷ fs) (ih f)

pub put_new : (p : Prefix) (k : Kept) (es : List Entry) → lookup (is_at (prefix_cmp p)) es ≡ None → insert_entry prefix_cmp es p (k ∷ []) ≡ put_entry p k es
put_new p k [] h = refl
put_new p k (e ∷ es) h = at (prefix_cmp p e.0) refl (put_new p k es) h where
  at : (o : Ordering) → prefix_cmp p e.0 ≡ o → (lookup (is_at (prefix_cmp p)) es ≡ None → insert_entry prefix_cmp es p (k ∷ []) ≡ put_entry p k es)
      → cond (is_eq o) (Some e.1) (lookup (is_at (prefix_cmp p)) es) ≡ None
      → match_ordering o ((p, k ∷ []) ∷ e ∷ es) ((e.0, k ∷ []) ∷ es) (e ∷ insert_entry prefix_cmp es p (k ∷ []))
      ≡ match_ordering o ((p, k ∷ []) ∷ e ∷ es) ((e.0, put_kept k e.1) ∷ es) (e ∷ put_entry p k es)
  at Less less ih f = refl
  at Equal same ih f = cc
  at Greater more ih f = ap (λ fs. e ∷ fs) (ih f)

-- what stays true of the entries
pub each_entry : (P : Prefix → Type 0) (p : Prefix) (k : Kept) (es : List Entry) → P p → AllByRecursion P (keys_of es)
    → AllByRecursion P (keys_of (put_entry p k es))
each_entry P p k [] h all = (h, tt)
each_entry P p k (e ∷ es) h all = at (prefix_cmp p e.0) (each_entry P p k es h all.1) where
  at : (o : Ordering) → AllByRecursion P (keys_of (put_entry p k es))
      → AllByRecursion P (keys_of (match_ordering o ((p, k ∷ []) ∷ e ∷ es) ((e.0, put_kept k e.1) ∷ es) (e ∷ put_entry p k es)))
  at Less ih = (h, all)
  at Equal ih = all
  at Greater ih = (all.0, ih)

pub put_placed : (p : Prefix) (k : Kept) (es : List Entry) → IsTo (Some p) k → ArePlaced es → ArePlaced (put_entry p k es)
put_placed p k [] d placed = ((d, tt), tt)
put_placed p k (e ∷ es) d placed = at (prefix_cmp p e.0) refl (put_placed p k es d placed.1) where
  at : (o : Ordering) → prefix_cmp p e.0 ≡ o → ArePlaced (put_entry p k es)
      → ArePlaced (match_ordering o ((p, k ∷ []) ∷ e ∷ es) ((e.0, put_kept k e.1) ∷ es) (e ∷ put_entry p k es))
  at Less less ih = ((d, tt), placed)
  at Equal same ih = (each-put (IsTo (Some e.0)) k (subst (λ q. IsTo (Some q) k) (equal_test p e.0 same) d) e.1 placed.0, placed.1)
  at Greater more ih = (placed.0, ih)

pub length-put : (k : Kept) (ks : List Kept) → length (put_kept k ks) ≤ length ks + 1
length-put k [] = omega arith
length-put k (x ∷ xs) = at (key_cmp k.route.rule k.route.peer x.route) (length-put k xs) where
  at : (o : Ordering) → length (put_kept k xs) ≤ length xs + 1 → length (match_ordering o (k ∷ x ∷ xs) (k ∷ xs) (x ∷ put_kept k xs)) ≤ suc (length xs) + 1
  at Less ih = omega arith
  at Equal ih = omega arith
  at Greater ih = omega (arith, ih)

-- each group is in order where all routes are
pub sorted_front : (xs ys : List Kept) → AreSorted (routes_of (xs ++ ys)) → AreSorted (routes_of xs)
sorted_front [] ys h = tt
sorted_front (x ∷ xs) ys h = (front xs h.0, sorted_front xs ys h.1) where
  front : (zs : List Kept) → AllByRecursion (λ s. key_cmp x.route.rule x.route.peer s ≡ Less) (routes_of (zs ++ ys))
      → AllByRecursion (λ s. key_cmp x.route.rule x.route.peer s ≡ Less) (routes_of zs)
  front [] g = tt
  front (z ∷ zs) g = (g.0, front zs g.1)

pub sorted_back : (xs ys : List Kept) → AreSorted (routes_of (xs ++ ys)) → AreSorted (routes_of ys)
sorted_back [] ys h = h
sorted_back (x ∷ xs) ys h = sorted_back xs ys h.1

pub sorted_groups : (es : List Entry) (rest : List Kept) → AreSorted (routes_of (kept_in es rest)) → HasSortedGroups es
sorted_groups [] rest h = tt
sorted_groups (e ∷ es) rest h = (sorted_front e.1 (kept_in es rest) h, sorted_groups es rest (sorted_back e.1 (kept_in es rest) h))

pub sorted_rest : (es : List Entry) (rest : List Kept) → AreSorted (routes_of (kept_in es rest)) → AreSorted (routes_of rest)
sorted_rest [] rest h = h
sorted_rest (e ∷ es) rest h = sorted_rest es rest (sorted_back e.1 (kept_in es rest) h)

pub each_lookup : {K X : Type 0} (P : X → Type 0) (test : K → Bool) (es : List (K × X)) (v : X) → AllByRecursion (λ e. P e.1) es → lookup test es ≡ Some v → P v
each_lookup P test [] v h f = cc
each_lookup P test (e ∷ es) v h f = at (test e.0) f (each_lookup P test es v h.1) where
  at : (b : Bool) → cond b (Some e.1) (lookup test es) ≡ Some v → (lookup test es ≡ Some v → P v) → P v
  at true g ih = subst P (same_Some e.1 v g) h.0
  at false g ih = ih g
