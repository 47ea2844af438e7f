-- The best route at a prefix, by one peer's route there and those of the other peers.
use Rattle.fs_base.proofs.Lists.{filter-remove_other}
use Rattle.std.{specs.Ordering.{bool_cmp}, proofs.lemmas.{Map.{lookup-none, none_passes_from_lookup}, Map.Lookups.{exact_unsigned}}}
use Rattle.fs_unicast.specs.{Search.{is_beside, old_route}, Unicast.{IsSwap, IsSwapOf, path_at, take_path, swap_at}, declared.unicast.Swap.{Swap}}
use Rattle.fs_unicast.proofs.Words.{ℕ, ◌≡◌, refl, sym, ap, subst, ◌∙◌, cond, Bool, true, false, true≢false, not, ◌&&◌, ◌==◌, List, [], ◌∷◌, Option}
use Rattle.fs_unicast.proofs.Words.{Some, None, fold, filter, map, option_map, Ordering, Less, Equal, Greater, ordering_then, ordering_reverse, is_eq}
use Rattle.fs_unicast.proofs.Words.{is_lt, arith, nat_cmp, nat_tests, AllByRecursion, is_at, lookup, keys_of, insert_entry, remove_entry}
use Rattle.fs_unicast.proofs.Words.{match_ordering, IsStrictlySortedBy, sorted_head, sorted_tail, each_weaker, each_of_map, filter_filtered}
use Rattle.fs_unicast.proofs.Words.{and_first, equal_of_is_eq, less_of_is_lt, range_contains, path_length, IsFront, entries_between, Included}
use Rattle.fs_unicast.proofs.Words.{Unbounded, Path, Prefix, Place, Route, place_cmp, prefix_cmp, candidate, is_same_prefix, best_at, better}
use Rattle.fs_unicast.proofs.Words.{preferred, preference_cmp}
use Rattle.fs_unicast.proofs.{Best.{preference_total}, PlaceOrder.{place_total, falsified}, Ranges.{place, place_itself, from_same}}

last_equal : (o p : Ordering) → ordering_then o p ≡ Equal → p ≡ Equal
last_equal Less p h = cc
last_equal Equal p h = h
last_equal Greater p h = cc

-- routes of two peers are unlike
unlike : (a b : ℕ × Path) → (a.0 == b.0) ≡ false → preference_cmp a b ≡ Equal → ⊥
unlike a b h e = true≢false (sym (itself a.0 b.0 (exact_unsigned a.0 b.0 same)) ∙ h) where
  itself : (m n : ℕ) → m ≡ n → (m == n) ≡ true
  itself m n k = grind (arith, nat_tests)

  by_external : Ordering
  by_external = ordering_then (bool_cmp b.1.external a.1.external) (nat_cmp a.0 b.0)

  by_origin : Ordering
  by_origin = ordering_then (nat_cmp a.1.origin b.1.origin) by_external

  by_length : Ordering
  by_length = ordering_then (nat_cmp (path_length a.1.segments) (path_length b.1.segments)) by_origin

  same : nat_cmp a.0 b.0 ≡ Equal
  same = last_equal (bool_cmp b.1.external a.1.external) (nat_cmp a.0 b.0)
      (last_equal (nat_cmp a.1.origin b.1.origin) by_external (last_equal (nat_cmp (path_length a.1.segments) (path_length b.1.segments)) by_origin
      (last_equal (nat_cmp b.1.local_pref a.1.local_pref) by_length e)))

-- of what isn't preferred to s nothing is preferred to what is
through : (a b s : ℕ × Path) → preferred a s ≡ true → preferred b s ≡ false → preferred b a ≡ false
through a b s h k = falsified (preferred b a)
    (λ l. sym (ap is_lt (preference_total.trans b a s (less_of_is_lt (preference_cmp b a) l) (less_of_is_lt (preference_cmp a s) h))) ∙ k)

-- two routes of other peers count in any order
first_two : (a b : ℕ × Path) → (a.0 == b.0) ≡ false → better (Some a) b ≡ better (Some b) a
first_two a b h = ap (λ o. cond (is_lt o) (Some b) (Some a)) (preference_total.antisymm b a) ∙ pick (preference_cmp a b) (unlike a b h) where
  pick : (o : Ordering) → (o ≡ Equal → ⊥) → cond (is_lt (ordering_reverse o)) (Some b) (Some a) ≡ cond (is_lt o) (Some a) (Some b)
  pick Less g = refl
  pick Equal g = absurd (g refl)
  pick Greater g = refl

swapped : (best : Option (ℕ × Path)) (a b : ℕ × Path) → (a.0 == b.0) ≡ false → better (better best a) b ≡ better (better best b) a
swapped None a b h = first_two a b h
swapped (Some s) a b h = at (preferred a s) refl (preferred b s) refl where
  at : (x : Bool) → preferred a s ≡ x → (y : Bool) → preferred b s ≡ y → better (cond x (Some a) (Some s)) b ≡ better (cond y (Some b) (Some s)) a
  at true e true f = first_two a b h
  at true e false f = ap (λ t. cond t (Some b) (Some a)) (through a b s e f) ∙ sym (ap (λ t. cond t (Some a) (Some s)) e)
  at false e true f = ap (λ t. cond t (Some b) (Some s)) f ∙ sym (ap (λ t. cond t (Some a) (Some b)) (through b a s f e))
  at false e false f = ap (λ t. cond t (Some b) (Some s)) f ∙ sym (ap (λ t. cond t (Some a) (Some s)) e)

-- of the peer's path, if there is one, and the best so far
abbrev with_own : ℕ → Option Path → Option (ℕ × Path) → Option (ℕ × Path)
with_own peer None best = best
with_own peer (Some path) best = better best (peer, path)

module _ (p : Prefix) (peer : ℕ) where
  at_place : (q : Place) → is_eq (place_cmp (place p peer) q) ≡ (is_same_prefix p q.prefix && (q.peer == peer))
  at_place q = at (prefix_cmp p q.prefix) where
    same : is_eq (nat_cmp peer q.peer) ≡ (q.peer == peer)
    same = grind (arith, nat_tests)

    at : (o : Ordering) → is_eq (ordering_then o (nat_cmp peer q.peer)) ≡ (is_eq o && (q.peer == peer))
    at Less = refl
    at Equal = same
    at Greater = refl

  -- behind the peer's route at the prefix there is no other one
  none_behind : (r : Route) (held : List Route) → IsStrictlySortedBy place_cmp (keys_of (r ∷ held)) → is_eq (place_cmp (place p peer) r.0) ≡ true
      → path_at peer p held ≡ None
  none_behind r held sorted h = lookup-none (is_at (place_cmp (place p peer))) held
      (each_weaker (λ s. place_cmp r.0 s.0 ≡ Less) (λ s. is_eq (place_cmp (place p peer) s.0) ≡ false)
      (λ s less. ap is_eq (place_total.congr (place p peer) r.0 s.0 (equal_of_is_eq (place_cmp (place p peer) r.0) h) ∙ less)) held
      (each_of_map (λ s. s.0) (λ q. place_cmp r.0 q ≡ Less) held (sorted_head place_cmp r.0 (keys_of held) sorted)))

  -- the best of the routes at the prefix and one more, by the peer's path there and the other routes
  best_by_own : (held : List Route) → IsStrictlySortedBy place_cmp (keys_of held) → (best : Option (ℕ × Path))
      → fold better best (map candidate (filter (λ r. is_same_prefix p r.0.prefix) held))
      ≡ fold better (with_own peer (path_at peer p held) best) (map candidate (filter (λ r. is_beside p peer r.0) held))
  best_by_own [] sorted best = refl
  best_by_own (r ∷ held) sorted best =
      at (is_same_prefix p r.0.prefix) (r.0.peer == peer) refl (is_eq (place_cmp (place p peer) r.0)) refl (at_place r.0)
      (best_by_own held (sorted_tail place_cmp r.0 (keys_of held) sorted)) where
        all : List Route
        all = filter (λ s. is_same_prefix p s.0.prefix) held

        others : List Route
        others = filter (λ s. is_beside p peer s.0) held

        own : Option Path
        own = path_at peer p held

        its : (c : Bool) → c ≡ true → (r.0.peer == peer) ≡ c → r.0.peer ≡ peer
        its c e f = grind (arith, nat_tests)

        join : (o : Option Path) → (r.0.peer == peer) ≡ false → with_own peer o (better best (candidate r)) ≡ better (with_own peer o best) (candidate r)
        join None f = refl
        join (Some path) f = swapped best (candidate r) (peer, path) f

        at : (b c : Bool) → (r.0.peer == peer) ≡ c → (d : Bool) → is_eq (place_cmp (place p peer) r.0) ≡ d → d ≡ (b && c)
            → ((best : Option (ℕ × Path)) → fold better best (map candidate all) ≡ fold better (with_own peer own best) (map candidate others))
            → fold better best (map candidate (cond b (r ∷ all) all))
            ≡ fold better (with_own peer (cond d (Some r.1) own) best) (map candidate (cond (b && not c) (r ∷ others) others))
        at false c f true g h ih = absurd (true≢false h)
        at false c f false g h ih = ih best
        at true true f true g h ih = ih (better best (candidate r))
            ∙ ap (λ o. fold better (with_own peer o (better best (candidate r))) (map candidate others)) (none_behind r held sorted g)
            ∙ ap (λ n. fold better (better best (n, r.1)) (map candidate others)) (its true refl f)
        at true true f false g h ih = absurd (true≢false (sym h))
        at true false f true g h ih = absurd (true≢false h)
        at true false f false g h ih = ih (better best (candidate r)) ∙ ap (λ o. fold better o (map candidate others)) (join own f)

-- where the first route isn't at the prefix, none is
pub none_beside : (p : Prefix) (peer : ℕ) (found : List Route) (r : Route) (rest : List Route) → IsFront p found → found ≡ r ∷ rest
    → is_same_prefix p r.0.prefix ≡ false → filter (λ s. is_beside p peer s.0) found ≡ []
none_beside p peer found r rest h e k =
    sym (filter_filtered (λ s. is_beside p peer s.0) at_prefix (λ s. and_first (is_same_prefix p s.0.prefix) (not (s.0.peer == peer))) found)
    ∙ ap (filter (λ s. is_beside p peer s.0)) (ap (filter at_prefix) e ∙ ap (λ b. cond b (r ∷ filter at_prefix rest) (filter at_prefix rest)) k
    ∙ (subst (IsFront p) e h).0 k) where
      at_prefix : Route → Bool
      at_prefix s = is_same_prefix p s.0.prefix

-- what a swap's route and the other peers' routes are the best of is the best before
pub best_before : (swap : Swap) (earlier now found : List Route) → IsSwap swap earlier now
    → found ≡ entries_between place_cmp (Included (place swap.prefix 0)) Unbounded now
    → fold better (old_route swap) (map candidate (filter (λ r. is_beside swap.prefix swap.peer r.0) found)) ≡ best_at earlier swap.prefix
best_before swap earlier now found h e = ap (λ rs. fold better (old_route swap) (map candidate rs)) beside
    ∙ sym (best_by_own swap.prefix swap.peer earlier h.sorted None ∙ ap (λ o. fold better (with_own swap.peer o None) (map candidate (others earlier))) h.was
    ∙ ap (λ o. fold better o (map candidate (others earlier))) (old swap.old)) where
      others : List Route → List Route
      others = filter (λ r. is_beside swap.prefix swap.peer r.0)

      old : (o : Option Path) → with_own swap.peer o None ≡ option_map (λ path. (swap.peer, path)) o
      old None = refl
      old (Some path) = refl

      apart : (q : Place) → is_eq (place_cmp (place swap.prefix swap.peer) q) ≡ true → is_beside swap.prefix swap.peer q ≡ false
      apart q k = neither (is_same_prefix swap.prefix q.prefix) (q.peer == swap.peer) (sym (at_place swap.prefix swap.peer q) ∙ k) where
        neither : (b c : Bool) → (b && c) ≡ true → (b && not c) ≡ false
        neither true true l = refl
        neither true false l = absurd (true≢false (sym l))
        neither false c l = refl

      taken : (held : List Route) → others (take_path swap.peer swap.prefix held) ≡ others held
      taken held = filter-remove_other (is_beside swap.prefix swap.peer) (is_at (place_cmp (place swap.prefix swap.peer))) apart held

      beside : others found ≡ others earlier
      beside = ap others e ∙ filter_filtered (λ r. is_beside swap.prefix swap.peer r.0)
          (λ r. range_contains place_cmp (Included (place swap.prefix 0)) Unbounded r.0)
          (λ r k. from_same (prefix_cmp swap.prefix r.0.prefix) r.0.peer
          (and_first (is_same_prefix swap.prefix r.0.prefix) (not (r.0.peer == swap.peer)) k)) now
          ∙ sym (taken now) ∙ ap others (sym h.beside) ∙ taken earlier

-- nothing is taken where nothing is at the place
take_none : (z : Place) (held : List Route) → AllByRecursion (λ r. is_eq (place_cmp z r.0) ≡ false) held → remove_entry (is_at (place_cmp z)) held ≡ held
take_none z [] h = refl
take_none z (r ∷ held) h = ap (λ b. cond b held (r ∷ remove_entry (is_at (place_cmp z)) held)) h.0 ∙ ap (λ rs. r ∷ rs) (take_none z held h.1)

-- without what is put, as without what was there
take_put : (z : Place) (path : Path) (held : List Route) → IsStrictlySortedBy place_cmp (keys_of held)
    → remove_entry (is_at (place_cmp z)) (insert_entry place_cmp held z path) ≡ remove_entry (is_at (place_cmp z)) held
take_put z path [] sorted = ap (λ o. cond {A = List Route} (is_eq o) [] ((z, path) ∷ [])) (place_itself z)
take_put z path (r ∷ held) sorted = at (place_cmp z r.0) refl (take_put z path held (sorted_tail place_cmp r.0 (keys_of held) sorted)) where
  take : List Route → List Route
  take rs = remove_entry (is_at (place_cmp z)) rs

  later : place_cmp z r.0 ≡ Less → AllByRecursion (λ s. is_eq (place_cmp z s.0) ≡ false) held
  later e = each_weaker (λ s. place_cmp r.0 s.0 ≡ Less) (λ s. is_eq (place_cmp z s.0) ≡ false) (λ s less. ap is_eq (place_total.trans z r.0 s.0 e less)) held
      (each_of_map (λ s. s.0) (λ q. place_cmp r.0 q ≡ Less) held (sorted_head place_cmp r.0 (keys_of held) sorted))

  at : (o : Ordering) → place_cmp z r.0 ≡ o → take (insert_entry place_cmp held z path) ≡ take held
      → take (match_ordering o ((z, path) ∷ r ∷ held) ((r.0, path) ∷ held) (r ∷ insert_entry place_cmp held z path)) ≡ cond (is_eq o) held (r ∷ take held)
  at Less e ih = ap (λ c. cond (is_eq c) (r ∷ held) ((z, path) ∷ take (r ∷ held))) (place_itself z) ∙ ap (λ rs. r ∷ rs) (sym (take_none z held (later e)))
  at Equal e ih = ap (λ c. cond (is_eq c) held ((r.0, path) ∷ take held)) e
  at Greater e ih = ap (λ c. cond (is_eq c) (insert_entry place_cmp held z path) (r ∷ take (insert_entry place_cmp held z path))) e ∙ ap (λ rs. r ∷ rs) ih

-- a path comes to a place
pub swap_put : (z : Place) (path : Path) (old : Option Path) (held made : List Route) → IsStrictlySortedBy place_cmp (keys_of held)
    → IsStrictlySortedBy place_cmp (keys_of made)
    → made ≡ insert_entry place_cmp held z path → old ≡ lookup (is_at (place_cmp z)) held → IsSwap (swap_at z old) held made
swap_put z path old held made sorted ordered e k = record {
  was = sym k;
  beside = sym (ap (remove_entry (is_at (place_cmp z))) e ∙ take_put z path held sorted);
  sorted = sorted;
  ordered = ordered;
}

-- the path at a place goes
pub swap_taken : (z : Place) (path : Path) (held left : List Route) → IsStrictlySortedBy place_cmp (keys_of held) → IsStrictlySortedBy place_cmp (keys_of left)
    → left ≡ remove_entry (is_at (place_cmp z)) held → lookup (is_at (place_cmp z)) left ≡ None → lookup (is_at (place_cmp z)) held ≡ Some path
    → IsSwap (swap_at z (Some path)) held left
swap_taken z path held left sorted ordered e none k = record {
  was = k;
  beside = sym e ∙ sym (take_none z left (none_passes_from_lookup (is_at (place_cmp z)) left none));
  sorted = sorted;
  ordered = ordered;
}

-- a swap at a prefix is one of the peer there
pub swap_of : (peer : ℕ) (p key : Prefix) (old : Option Path) (earlier now : List Route) → key ≡ p → IsSwap (swap_at (place key peer) old) earlier now
    → IsSwapOf peer p (swap_at (place p peer) old) earlier now
swap_of peer p key old earlier now e h = record {
  of_peer = refl;
  at_prefix = refl;
  swapped = subst (λ q. IsSwap (swap_at (place q peer) old) earlier now) e h;
}
