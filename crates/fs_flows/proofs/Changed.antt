-- What a change does to the routes, to their validities and to the order.
use Rattle.fs_flows.proofs.Words.{◌≡◌, ◌+◌, refl, sym, ap, subst, ◌∙◌, Bool, true, false, true≢false, not, ◌||◌, cond, List, [], ◌∷◌, ◌++◌, filter}
use Rattle.fs_flows.proofs.Words.{map, Option, Some, None, Ordering, Less, Equal, Greater, is_eq, nat_cmp, is_some, length, arith, list_any}
use Rattle.fs_flows.proofs.Words.{AllByRecursion, list_any-append, match_ordering, ordering_reverse, IsTotalOrder, on_total, then_total}
use Rattle.fs_flows.proofs.Words.{nat_cmp_total, insert_entry, is_at, remove_entry, lookup, Config, Prefix, Path, covers, prefix_cmp, or_false}
use Rattle.fs_flows.proofs.Words.{or_none, each_none, each_weaker, filter-append, filter-insert_other, filter-remove_other, filter_all, each_filtered}
use Rattle.fs_flows.proofs.Words.{alike_covers, covers_alike, is_eq_of_first, rule_total, Route, place_cmp, destination_prefix, is_related, related}
use Rattle.fs_flows.proofs.Words.{validity, validity_to, FlowRoute, Kept, key_cmp, put_route, has_related, routes_of, AreRight, AreSorted, Keeps}
use Rattle.fs_flows.proofs.Words.{put_kept, mended, retested, is_related_kept}
use Rattle.fs_unicast.specs.declared.unicast.Place.{Place}
use Rattle.fs_validate.proofs.Local.{validity_local}

-- The order of keys is total.
abbrev pub flow_cmp : FlowRoute → FlowRoute → Ordering
flow_cmp r s = key_cmp r.rule r.peer s

pub flow_total : IsTotalOrder flow_cmp
flow_total = then_total (on_total (λ (r : FlowRoute). r.rule) rule_total) (on_total (λ (r : FlowRoute). r.peer) nat_cmp_total)

-- A put.
pub routes-put : (k : Kept) (ks : List Kept) → routes_of (put_kept k ks) ≡ put_route k.route (routes_of ks)
routes-put k [] = refl
routes-put k (x ∷ xs) = at (key_cmp k.route.rule k.route.peer x.route) (routes-put k xs) where
  at : (o : Ordering) → routes_of (put_kept k xs) ≡ put_route k.route (routes_of xs)
      → routes_of (match_ordering o (k ∷ x ∷ xs) (k ∷ xs) (x ∷ put_kept k xs))
      ≡ match_ordering o (k.route ∷ x.route ∷ routes_of xs) (k.route ∷ routes_of xs) (x.route ∷ put_route k.route (routes_of xs))
  at Less ih = refl
  at Equal ih = refl
  at Greater ih = ap (λ rs. x.route ∷ rs) ih

pub each-put : (P : Kept → Type 0) (k : Kept) → P k → (ks : List Kept) → AllByRecursion P ks → AllByRecursion P (put_kept k ks)
each-put P k h [] all = (h, tt)
each-put P k h (x ∷ xs) all = at (key_cmp k.route.rule k.route.peer x.route) (each-put P k h xs all.1) where
  at : (o : Ordering) → AllByRecursion P (put_kept k xs) → AllByRecursion P (match_ordering o (k ∷ x ∷ xs) (k ∷ xs) (x ∷ put_kept k xs))
  at Less ih = (h, all)
  at Equal ih = (h, all.1)
  at Greater ih = (all.0, ih)

pub each-put_route : (P : FlowRoute → Type 0) (r : FlowRoute) → P r → (rs : List FlowRoute) → AllByRecursion P rs → AllByRecursion P (put_route r rs)
each-put_route P r h [] all = (h, tt)
each-put_route P r h (x ∷ xs) all = at (key_cmp r.rule r.peer x) (each-put_route P r h xs all.1) where
  at : (o : Ordering) → AllByRecursion P (put_route r xs) → AllByRecursion P (match_ordering o (r ∷ x ∷ xs) (r ∷ xs) (x ∷ put_route r xs))
  at Less ih = (h, all)
  at Equal ih = (h, all.1)
  at Greater ih = (all.0, ih)

swapped : (r s : FlowRoute) → flow_cmp r s ≡ Greater → flow_cmp s r ≡ Less
swapped r s h = flow_total.antisymm s r ∙ ap ordering_reverse h

pub sorted-put : (r : FlowRoute) (rs : List FlowRoute) → AreSorted rs → AreSorted (put_route r rs)
sorted-put r [] h = (tt, tt)
sorted-put r (x ∷ xs) h = at (key_cmp r.rule r.peer x) refl (sorted-put r xs h.1) where
  at : (o : Ordering) → key_cmp r.rule r.peer x ≡ o → AreSorted (put_route r xs) → AreSorted (match_ordering o (r ∷ x ∷ xs) (r ∷ xs) (x ∷ put_route r xs))
  at Less e ih = ((e, each_weaker (λ s. flow_cmp x s ≡ Less) (λ s. flow_cmp r s ≡ Less) (λ s k. flow_total.trans r x s e k) xs h.0), h)
  at Equal e ih = (each_weaker (λ s. flow_cmp x s ≡ Less) (λ s. flow_cmp r s ≡ Less) (λ s k. flow_total.congr r x s e ∙ k) xs h.0, h.1)
  at Greater e ih = (each-put_route (λ s. flow_cmp x s ≡ Less) r (swapped r x e) xs h.0, ih)

pub keeps-put : (config : Config) (unicast : List Route) (k : Kept) (ks : List Kept) → k.validity ≡ validity unicast config k.route
    → Keeps config unicast ks → Keeps config unicast (put_kept k ks)
keeps-put config unicast k ks h keeps = record {
  right = each-put (λ k. k.validity ≡ validity unicast config k.route) k h ks keeps.right;
  sorted = subst AreSorted (sym (routes-put k ks)) (sorted-put k.route (routes_of ks) keeps.sorted);
}

-- What is left of the routes.
pub routes-filter : (p : FlowRoute → Bool) (ks : List Kept) → routes_of (filter (λ k. p k.route) ks) ≡ filter p (routes_of ks)
routes-filter p [] = refl
routes-filter p (k ∷ ks) = at (p k.route) (routes-filter p ks) where
  at : (b : Bool) → routes_of (filter (λ k. p k.route) ks) ≡ filter p (routes_of ks)
      → routes_of (cond b (k ∷ filter (λ k. p k.route) ks) (filter (λ k. p k.route) ks))
      ≡ cond b (k.route ∷ filter p (routes_of ks)) (filter p (routes_of ks))
  at true ih = ap (λ rs. k.route ∷ rs) ih
  at false ih = ih

pub each-filtered : {X : Type 0} (P Q : X → Type 0) (p : X → Bool) → ((x : X) → P x → p x ≡ true → Q x) → (xs : List X) → AllByRecursion P xs
    → AllByRecursion Q (filter p xs)
each-filtered P Q p h [] k = tt
each-filtered P Q p h (x ∷ xs) k = at (p x) refl (each-filtered P Q p h xs k.1) where
  at : (b : Bool) → p x ≡ b → AllByRecursion Q (filter p xs) → AllByRecursion Q (cond b (x ∷ filter p xs) (filter p xs))
  at true e ih = (h x k.0 e, ih)
  at false e ih = ih

-- What doesn't pass stays away: of two lists, where nothing in one of them passes.
module _ {X : Type 0} (p : X → Bool) where
  pub all_stay : (xs : List X) → AllByRecursion (λ x. p x ≡ false) xs → filter (λ x. not (p x)) xs ≡ xs
  all_stay xs h = filter_all (λ x. not (p x)) xs (each_weaker (λ x. p x ≡ false) (λ x. not (p x) ≡ true) (λ x e. ap not e) xs h)

  pub left_front : (xs ys : List X) → AllByRecursion (λ y. p y ≡ false) ys → filter (λ x. not (p x)) xs ++ ys ≡ filter (λ x. not (p x)) (xs ++ ys)
  left_front xs ys h = ap (λ zs. filter (λ x. not (p x)) xs ++ zs) (sym (all_stay ys h)) ∙ sym (filter-append (λ x. not (p x)) xs ys)

  pub left_back : (xs ys : List X) → AllByRecursion (λ x. p x ≡ false) xs → xs ++ filter (λ x. not (p x)) ys ≡ filter (λ x. not (p x)) (xs ++ ys)
  left_back xs ys h = ap (λ zs. zs ++ filter (λ x. not (p x)) ys) (sym (all_stay xs h)) ∙ sym (filter-append (λ x. not (p x)) xs ys)

  pub any_front : (xs ys : List X) → AllByRecursion (λ y. p y ≡ false) ys → list_any p xs ≡ list_any p (xs ++ ys)
  any_front xs ys h = sym (list_any-append p xs ys ∙ or_none (list_any p xs) (list_any p ys) (each_none p ys h))

  pub any_back : (xs ys : List X) → AllByRecursion (λ x. p x ≡ false) xs → list_any p ys ≡ list_any p (xs ++ ys)
  any_back xs ys h = sym (list_any-append p xs ys ∙ ap (λ b. b || list_any p ys) (each_none p xs h))

pub sorted-filter : (p : FlowRoute → Bool) (rs : List FlowRoute) → AreSorted rs → AreSorted (filter p rs)
sorted-filter p [] h = tt
sorted-filter p (r ∷ rs) h = at (p r) (sorted-filter p rs h.1) where
  at : (b : Bool) → AreSorted (filter p rs) → AreSorted (cond b (r ∷ filter p rs) (filter p rs))
  at true ih = (each_filtered (λ s. flow_cmp r s ≡ Less) p rs h.0, ih)
  at false ih = ih

pub keeps-filter : (config : Config) (unicast : List Route) (p : FlowRoute → Bool) (ks : List Kept) → Keeps config unicast ks
    → Keeps config unicast (filter (λ k. p k.route) ks)
keeps-filter config unicast p ks keeps = record {
  right = each_filtered (λ k. k.validity ≡ validity unicast config k.route) (λ k. p k.route) ks keeps.right;
  sorted = subst AreSorted (sym (routes-filter p ks)) (sorted-filter p (routes_of ks) keeps.sorted);
}

pub any-routes : (p : FlowRoute → Bool) (ks : List Kept) → list_any (λ k. p k.route) ks ≡ list_any p (routes_of ks)
any-routes p [] = refl
any-routes p (k ∷ ks) = ap (λ b. p k.route || b) (any-routes p ks)

-- A change at a prefix: the lists of unicast routes agree on what isn't related to it.
abbrev pub AgreeOff : Prefix → List Route → List Route → Type 0
AgreeOff p old new = (d : Prefix) → is_related p d ≡ false → related d old ≡ related d new

pub routes_mended : (p : Prefix) (unicast : List Route) (config : Config) (ks : List Kept) → routes_of (map (mended p unicast config) ks) ≡ routes_of ks
routes_mended p unicast config [] = refl
routes_mended p unicast config (k ∷ ks) = at (is_related_kept p k) (routes_mended p unicast config ks) where
  at : (b : Bool) → routes_of (map (mended p unicast config) ks) ≡ routes_of ks
      → (cond b (retested unicast config k) k).route ∷ routes_of (map (mended p unicast config) ks) ≡ k.route ∷ routes_of ks
  at true ih = ap (λ rs. k.route ∷ rs) ih
  at false ih = ap (λ rs. k.route ∷ rs) ih

-- the validity of a route whose destination isn't related to the change
pub unrelated : (config : Config) (r : FlowRoute) (destination : Option Prefix) (p : Prefix) (old new : List Route) → AgreeOff p old new
    → has_related p destination ≡ false → validity_to old config r destination ≡ validity_to new config r destination
unrelated config r None p old new agree h = refl
unrelated config r (Some d) p old new agree h = validity_local config r (Some d) old new (agree d h)

right-mended : (config : Config) (p : Prefix) (old new : List Route) → AgreeOff p old new → (ks : List Kept) → AreRight old config ks
    → AreRight new config (map (mended p new config) ks)
right-mended config p old new agree [] h = tt
right-mended config p old new agree (k ∷ ks) h = (at (is_related_kept p k) refl, right-mended config p old new agree ks h.1) where
  at : (b : Bool) → is_related_kept p k ≡ b → (cond b (retested new config k) k).validity ≡ validity new config (cond b (retested new config k) k).route
  at true e = refl
  at false e = h.0 ∙ unrelated config k.route (destination_prefix k.route.rule) p old new agree e

pub keeps-mended : (config : Config) (p : Prefix) (old new : List Route) → AgreeOff p old new → (ks : List Kept) → Keeps config old ks
    → Keeps config new (map (mended p new config) ks)
keeps-mended config p old new agree ks keeps = record {
  right = right-mended config p old new agree ks keeps.right;
  sorted = subst AreSorted (sym (routes_mended p new config ks)) keeps.sorted;
}

-- The two changes of unicast routes agree off their prefix.
is_related_same : (d p q : Prefix) → is_eq (prefix_cmp p q) ≡ true → is_related d p ≡ is_related d q
is_related_same d p q h = let e : covers p d ≡ covers q d = alike_covers p q d h in let f : covers d p ≡ covers d q = covers_alike p q d h in cc

related_back : (p d : Prefix) → is_related p d ≡ false → is_related d p ≡ false
related_back p d h = let both = or_false (covers d p) (covers p d) h in or_none (covers p d) (covers d p) both.0 ∙ both.1

pub agree_insert : (place : Place) (path : Path) (unicast : List Route) → AgreeOff place.prefix unicast (insert_entry place_cmp unicast place path)
agree_insert place path unicast d h = sym (filter-insert_other place_cmp (λ q. is_related d q.prefix) place path out same unicast) where
  out : is_related d place.prefix ≡ false
  out = related_back place.prefix d h

  same : (q : Place) → place_cmp place q ≡ Equal → is_related d q.prefix ≡ false
  same q e = sym (is_related_same d place.prefix q.prefix (is_eq_of_first (prefix_cmp place.prefix q.prefix) (nat_cmp place.peer q.peer) (ap is_eq e))) ∙ out

pub agree_remove : (place : Place) (unicast : List Route) → AgreeOff place.prefix unicast (remove_entry (is_at (place_cmp place)) unicast)
agree_remove place unicast d h = sym (filter-remove_other (λ q. is_related d q.prefix) (is_at (place_cmp place)) same unicast) where
  same : (q : Place) → is_at (place_cmp place) q ≡ true → is_related d q.prefix ≡ false
  same q e = sym (is_related_same d place.prefix q.prefix (is_eq_of_first (prefix_cmp place.prefix q.prefix) (nat_cmp place.peer q.peer) e))
      ∙ related_back place.prefix d h

-- nothing is removed where nothing is found
pub remove_nothing : {K X : Type 0} (test : K → Bool) (es : List (K × X)) → is_some (lookup test es) ≡ false → remove_entry test es ≡ es
remove_nothing test [] h = refl
remove_nothing test (e ∷ es) h = at (test e.0) (remove_nothing test es) h where
  at : (b : Bool) → (is_some (lookup test es) ≡ false → remove_entry test es ≡ es) → is_some (cond b (Some e.1) (lookup test es)) ≡ false
      → cond b es (e ∷ remove_entry test es) ≡ e ∷ es
  at true ih k = absurd (true≢false k)
  at false ih k = ap (λ fs. e ∷ fs) (ih k)

-- what is there is gone behind
pub removes_one : {K X : Type 0} (test : K → Bool) (es : List (K × X)) → is_some (lookup test es) ≡ true → length (remove_entry test es) + 1 ≡ length es
removes_one test [] h = absurd (true≢false (sym h))
removes_one test (e ∷ es) h = at (test e.0) (removes_one test es) h where
  at : (b : Bool) → (is_some (lookup test es) ≡ true → length (remove_entry test es) + 1 ≡ length es) → is_some (cond b (Some e.1) (lookup test es)) ≡ true
      → length (cond b es (e ∷ remove_entry test es)) + 1 ≡ length (e ∷ es)
  at true ih k = omega arith
  at false ih k = let i = ih k in omega (arith, i)
