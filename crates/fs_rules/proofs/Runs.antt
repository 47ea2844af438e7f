use Rattle.fs_rules.proofs.Words.{ℕ, zero, suc, ◌≡◌, ◌+◌, ◌<◌, ◌≤◌, refl, sym, ap, subst, ◌∙◌, Bool, true, false, true≢false, List, [], ◌∷◌, length}
use Rattle.fs_rules.proofs.Words.{get_or, slice_get, drop, ◌-◌, Ordering, Less, Equal, Greater, is_eq, nat_cmp, arith, AllByRecursion}
use Rattle.fs_rules.proofs.Words.{IsPartitionedBy, match_ordering, ordering_then, ordering_reverse, is_gt, tied_back, each_of_map, each_weaker, Ruled}
use Rattle.fs_rules.proofs.Words.{rule_cmp, rule_total, FlowRoute, Kept, key_cmp, same_rule, routes_of, AreSorted, place_in, is_beaten}
use Rattle.fs_rules.proofs.Words.{is_before_rule, drop_each, NotBefore, is_after, least_after, no_rival, not_before, partitioned, place_from}

-- Where the routes of a rule begin, and that they stand next to each other.

-- a place behind the last that stands before the rule, and before the first that doesn't
after_at : (rule : Ruled) (xs : List Kept) (i : ℕ) (d : Kept) → i < length xs → is_before_rule rule (slice_get xs i) ≡ is_after rule 0 (get_or xs i d)
after_at rule [] i d h = absurd (omega arith)
after_at rule (x ∷ xs) zero d h = refl
after_at rule (x ∷ xs) (suc i) d h = after_at rule xs i d (omega arith)

pub starts_at : (rule : Ruled) (xs : List Kept) (i : ℕ) → AreSorted (routes_of xs) → i < length xs → 0 < i
    → is_before_rule rule (slice_get xs (i - 1)) ≡ true → is_before_rule rule (slice_get xs i) ≡ false → i ≡ place_in rule 0 xs
starts_at rule xs i sorted inside positive before behind = place_from rule 0 xs i (omega arith)
    (λ j d low high. up j d high)
    (λ j d low high. down j d low high)
  where
    parts : IsPartitionedBy (is_after rule 0) xs
    parts = partitioned rule 0 xs sorted

    up : (j : ℕ) (d : Kept) → j < i → is_after rule 0 (get_or xs j d) ≡ true
    up j d high = parts j (i - 1) d (omega arith) (omega arith) (sym (after_at rule xs (i - 1) d (omega arith)) ∙ before)

    down : (j : ℕ) (d : Kept) → i ≤ j → j < length xs → is_after rule 0 (get_or xs j d) ≡ false
    down j d low high = at (is_after rule 0 (get_or xs j d)) refl where
      at : (b : Bool) → is_after rule 0 (get_or xs j d) ≡ b → is_after rule 0 (get_or xs j d) ≡ false
      at true e = absurd (true≢false (sym (parts i j d (omega arith) (omega arith) e) ∙ sym (after_at rule xs i d inside) ∙ behind))
      at false e = e

pub starts_first : (rule : Ruled) (xs : List Kept) (i : ℕ) → AreSorted (routes_of xs) → i ≡ 0 → i < length xs
    → is_before_rule rule (slice_get xs i) ≡ false → i ≡ place_in rule 0 xs
starts_first rule xs i sorted none inside behind = none ∙ first xs (sym (ap (λ n. is_before_rule rule (slice_get xs n)) none) ∙ behind) where
  first : (xs : List Kept) → is_before_rule rule (slice_get xs 0) ≡ false → 0 ≡ place_in rule 0 xs
  first [] h = refl
  first (x ∷ xs) h = at (key_cmp rule 0 x.route) refl where
    at : (o : Ordering) → key_cmp rule 0 x.route ≡ o → 0 ≡ match_ordering o 0 0 (1 + place_in rule 0 xs)
    at Less e = refl
    at Equal e = refl
    at Greater e = absurd (true≢false (sym (ap is_gt e) ∙ h))

greater_apart : (r s : FlowRoute) → rule_cmp r.rule s.rule ≡ Greater → same_rule s r ≡ false
greater_apart r s h = ap is_eq (rule_total.antisymm s.rule r.rule ∙ ap ordering_reverse h)

pub beaten_from : (k : Kept) (xs : List Kept) → is_beaten (drop (place_in k.route.rule 0 xs) xs) k ≡ is_beaten xs k
beaten_from k [] = refl
beaten_from k (x ∷ xs) = at (key_cmp k.route.rule 0 x.route) refl (beaten_from k xs) where
  at : (o : Ordering) → key_cmp k.route.rule 0 x.route ≡ o → is_beaten (drop (place_in k.route.rule 0 xs) xs) k ≡ is_beaten xs k
      → is_beaten (drop (match_ordering o 0 0 (1 + place_in k.route.rule 0 xs)) (x ∷ xs)) k ≡ is_beaten (x ∷ xs) k
  at Less e ih = refl
  at Equal e ih = refl
  at Greater e ih = ap (λ n. is_beaten (drop n (x ∷ xs)) k) next ∙ ih
      ∙ sym (no_rival k x (is_beaten xs k) (greater_apart k.route x.route (least_after (rule_cmp k.route.rule x.route.rule) x.route.peer e))) where
        next : 1 + place_in k.route.rule 0 xs ≡ suc (place_in k.route.rule 0 xs)
        next = omega arith

pub sorted-drop : (xs : List Kept) (n : ℕ) → AreSorted (routes_of xs) → AreSorted (routes_of (drop n xs))
sorted-drop [] zero h = tt
sorted-drop [] (suc n) h = tt
sorted-drop (x ∷ xs) zero h = h
sorted-drop (x ∷ xs) (suc n) h = sorted-drop xs n h.1

-- a rule that isn't before the key's, nor the key's, is after it, and so are those behind
rule_after : (k s : Kept) → NotBefore k s → same_rule s.route k.route ≡ false → rule_cmp k.route.rule s.route.rule ≡ Less
rule_after k s h other = at (rule_cmp k.route.rule s.route.rule) refl h where
  at : (o : Ordering) → rule_cmp k.route.rule s.route.rule ≡ o → is_gt (ordering_then o (nat_cmp 0 s.route.peer)) ≡ false
      → rule_cmp k.route.rule s.route.rule ≡ Less
  at Less e g = e
  at Equal e g = absurd (true≢false (sym (ap is_eq (tied_back rule_total k.route.rule s.route.rule e)) ∙ other))
  at Greater e g = absurd (true≢false g)

later_rule : (k s t : Kept) → rule_cmp k.route.rule s.route.rule ≡ Less → key_cmp s.route.rule s.route.peer t.route ≡ Less → same_rule t.route k.route ≡ false
later_rule k s t h less = at (rule_cmp s.route.rule t.route.rule) refl less where
  away : rule_cmp k.route.rule t.route.rule ≡ Less → same_rule t.route k.route ≡ false
  away e = ap is_eq (rule_total.antisymm t.route.rule k.route.rule ∙ ap ordering_reverse e)

  at : (o : Ordering) → rule_cmp s.route.rule t.route.rule ≡ o → ordering_then o (nat_cmp s.route.peer t.route.peer) ≡ Less → same_rule t.route k.route ≡ false
  at Less e g = away (rule_total.trans k.route.rule s.route.rule t.route.rule h e)
  at Equal e g = away (rule_total.antisymm k.route.rule t.route.rule
      ∙ ap ordering_reverse (sym (rule_total.congr s.route.rule t.route.rule k.route.rule e) ∙ rule_total.antisymm s.route.rule k.route.rule
      ∙ ap ordering_reverse h))
  at Greater e g = cc

none_beats : (k : Kept) (xs : List Kept) → AllByRecursion (λ s. same_rule s.route k.route ≡ false) xs → is_beaten xs k ≡ false
none_beats k [] h = refl
none_beats k (x ∷ xs) h = no_rival k x (is_beaten xs k) h.0 ∙ none_beats k xs h.1

-- behind the first route of another rule stands none of the rule
pub run_ends : (k s : Kept) (rest : List Kept) → AllByRecursion (NotBefore k) (s ∷ rest) → AreSorted (routes_of (s ∷ rest))
    → same_rule s.route k.route ≡ false → is_beaten (s ∷ rest) k ≡ false
run_ends k s rest h sorted other =
    none_beats k (s ∷ rest) (
      other,
      each_weaker (λ t. key_cmp s.route.rule s.route.peer t.route ≡ Less) (λ t. same_rule t.route k.route ≡ false)
          (λ t less. later_rule k s t (rule_after k s h.0 other) less) rest
          (each_of_map (λ k. k.route) (λ t. key_cmp s.route.rule s.route.peer t ≡ Less) rest sorted.0),
    )

-- the loop over a run
pub run_starts : (k : Kept) (xs items : List Kept) (n : ℕ) → items ≡ drop n xs → n ≡ place_in k.route.rule 0 xs → is_beaten items k ≡ is_beaten xs k
run_starts k xs items n e h = ap (λ ys. is_beaten ys k) (e ∙ ap (λ m. drop m xs) h) ∙ beaten_from k xs

pub run_over : (k s : Kept) (xs items rest : List Kept) (n i : ℕ) → AreSorted (routes_of xs) → items ≡ drop n xs → n ≡ place_in k.route.rule 0 xs
    → drop i items ≡ s ∷ rest → same_rule s.route k.route ≡ false → is_beaten (drop i items) k ≡ false
run_over k s xs items rest n i sorted e h d other = ap (λ ys. is_beaten ys k) d
    ∙ run_ends k s rest (subst (AllByRecursion (NotBefore k)) d
    (drop_each (NotBefore k) i items (subst (AllByRecursion (NotBefore k)) (sym same) (not_before k xs sorted))))
    (subst (λ ys. AreSorted (routes_of ys)) d
    (sorted-drop items i (subst (λ ys. AreSorted (routes_of ys)) (sym same) (sorted-drop xs (place_in k.route.rule 0 xs) sorted)))) other where
      same : items ≡ drop (place_in k.route.rule 0 xs) xs
      same = e ∙ ap (λ m. drop m xs) h
