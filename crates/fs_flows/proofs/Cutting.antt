-- Routes in blocks that are cut between rules: where a rule has its place, and what changes of one block do to all.
use Rattle.fs_flows.proofs.Words.{ℕ, zero, suc, ◌≡◌, ◌+◌, ◌<◌, ◌≤◌, refl, sym, ap, ap₂, subst, ◌∙◌, Bool, true, false, true≢false, not, ◌==◌, cond}
use Rattle.fs_flows.proofs.Words.{List, [], ◌∷◌, ◌++◌, map, filter, length, get_or, set, insert, remove, take, drop, Ordering, Less, Equal, Greater}
use Rattle.fs_flows.proofs.Words.{is_eq, nat_cmp, nat_le, ◌⊎◌, inl, inr, Result, Ok, Err, OnOk, OnErr, arith, leb-true, list_any, length-append}
use Rattle.fs_flows.proofs.Words.{or_either, AllByRecursion, append_assoc, map-append, take-append-drop, is_lt, match_ordering, ordering_then}
use Rattle.fs_flows.proofs.Words.{ordering_reverse, false_of_not, true_of_not, each_weaker, each_both, each_append, filter-append, each_filtered}
use Rattle.fs_flows.proofs.Words.{less_of_is_lt, Ruled, rule_cmp, rule_total, Kept, key_cmp, is_key, put_kept, AreSorted, routes_of, is_other_key}
use Rattle.fs_flows.proofs.Words.{flat, RuleBefore, AllBefore, AreCut, is_filled, AreFilled, IsCut, AreEachSorted, begins_by, begun, block_of}
use Rattle.fs_flows.proofs.Words.{with_block, keep_blocks, cut_list, CanCut}
use Rattle.fs_flows.proofs.Apart.{each_front, each_back, take_each, drop_each}
use Rattle.fs_flows.proofs.Changed.{any_back, any_front, each-put, left_back, left_front, routes-put, sorted-put}
use Rattle.fs_flows.proofs.PuttingInGroups.{put_left, put_right, sorted_front, sorted_back}
use Rattle.fs_flows.proofs.TakingFromGroups.{empty, not_empty}
use Rattle.std.specs.List.Retain.{RetainsInTurn}

-- Of a rule, the routes of earlier rules and those of later ones.
abbrev pub IsAhead : Ruled → Kept → Type 0
IsAhead rule x = rule_cmp x.route.rule rule ≡ Less

abbrev pub IsAfter : Ruled → Kept → Type 0
IsAfter rule y = rule_cmp rule y.route.rule ≡ Less

-- the rule has its place in the block of this number
abbrev pub Around : Ruled → ℕ → List (List Kept) → Type 0
Around rule n [] = ⊥
Around rule zero (b ∷ bs) = AllByRecursion (IsAfter rule) (flat bs)
Around rule (suc n) (b ∷ bs) = AllByRecursion (IsAhead rule) b × Around rule n bs

pub sorted_each : (bs : List (List Kept)) → AreSorted (routes_of (flat bs)) → AreEachSorted bs
sorted_each [] h = tt
sorted_each (b ∷ bs) h = (sorted_front b (flat bs) h, sorted_each bs (sorted_back b (flat bs) h))

pub sorted_at : (bs : List (List Kept)) (n : ℕ) (b : List Kept) → AreEachSorted bs → n < length bs → b ≡ get_or bs n b → AreSorted (routes_of b)
sorted_at [] n b h k e = absurd (omega arith)
sorted_at (x ∷ xs) zero b h k e = subst (λ ks. AreSorted (routes_of ks)) (sym e) h.0
sorted_at (x ∷ xs) (suc n) b h k e = sorted_at xs n b h.1 (omega arith) e

-- where a block has as many routes, all have
pub many_in : (n : ℕ) (bs : List (List Kept)) → list_any (λ block. nat_le n (length block)) bs ≡ true → n ≤ length (flat bs)
many_in n [] h = absurd (true≢false (sym h))
many_in n (b ∷ bs) h = at (or_either (nat_le n (length b)) (list_any (λ block. nat_le n (length block)) bs) h) (many_in n bs) where
  at : (nat_le n (length b) ≡ true) ⊎ (list_any (λ block. nat_le n (length block)) bs ≡ true)
      → (list_any (λ block. nat_le n (length block)) bs ≡ true → n ≤ length (flat bs)) → n ≤ length (b ++ flat bs)
  at (inl e) ih = omega (arith, leb-true n (length b) e, length-append b (flat bs))
  at (inr e) ih = omega (arith, ih e, length-append b (flat bs))

-- The search.
swapped : (r s : Ruled) → rule_cmp r s ≡ Greater → rule_cmp s r ≡ Less
swapped r s h = rule_total.antisymm s r ∙ ap ordering_reverse h

-- a route before one that isn't later than the rule is ahead of the rule
pub ahead_of : (rule : Ruled) (x c : Kept) → RuleBefore x c → is_lt (rule_cmp rule c.route.rule) ≡ false → IsAhead rule x
ahead_of rule x c h k = at (rule_cmp rule c.route.rule) refl k where
  at : (o : Ordering) → rule_cmp rule c.route.rule ≡ o → is_lt o ≡ false → IsAhead rule x
  at Less e g = absurd (true≢false g)
  at Equal e g = rule_total.antisymm x.route.rule rule
      ∙ ap ordering_reverse (rule_total.congr rule c.route.rule x.route.rule e ∙ rule_total.antisymm c.route.rule x.route.rule ∙ ap ordering_reverse h)
  at Greater e g = rule_total.trans x.route.rule c.route.rule rule h (swapped rule c.route.rule e)

-- what stands behind a route of a later rule is of a later rule
after_key : (rule : Ruled) (c y : Kept) → IsAfter rule c → key_cmp c.route.rule c.route.peer y.route ≡ Less → IsAfter rule y
after_key rule c y h less = at (rule_cmp c.route.rule y.route.rule) refl less where
  at : (o : Ordering) → rule_cmp c.route.rule y.route.rule ≡ o → ordering_then o (nat_cmp c.route.peer y.route.peer) ≡ Less → IsAfter rule y
  at Less e g = rule_total.trans rule c.route.rule y.route.rule h e
  at Equal e g = swapped y.route.rule rule (sym (rule_total.congr c.route.rule y.route.rule rule e) ∙ rule_total.antisymm c.route.rule rule
      ∙ ap ordering_reverse h)
  at Greater e g = cc

later_each : (rule : Ruled) (c : Kept) (cs : List Kept) → IsAfter rule c
    → AllByRecursion (λ s. key_cmp c.route.rule c.route.peer s ≡ Less) (routes_of cs) → AllByRecursion (IsAfter rule) cs
later_each rule c [] h k = tt
later_each rule c (y ∷ ys) h k = (after_key rule c y h k.0, later_each rule c ys h k.1)

-- a block that begins with a later rule, and all behind it
all_after : (rule : Ruled) (c : List Kept) (bs : List (List Kept)) → begins_by rule c ≡ false → is_filled c ≡ true → AreSorted (routes_of c)
    → AllBefore c (flat bs) → AllByRecursion (IsAfter rule) (c ++ flat bs)
all_after rule [] bs h f sorted before = absurd (true≢false (sym f))
all_after rule (k ∷ ks) bs h f sorted before = each_append (IsAfter rule) (k ∷ ks) (flat bs) (less, later_each rule k ks less sorted.0)
    (each_weaker (RuleBefore k) (IsAfter rule) (λ y g. rule_total.trans rule k.route.rule y.route.rule less g) (flat bs) before.0) where
      less : IsAfter rule k
      less = less_of_is_lt (rule_cmp rule k.route.rule) (true_of_not (is_lt (rule_cmp rule k.route.rule)) h)

-- the routes before a block that begins with the rule or with an earlier one
all_ahead : (rule : Ruled) (b c : List Kept) (bs : List (List Kept)) → begins_by rule c ≡ true → AllBefore b (c ++ flat bs) → AllByRecursion (IsAhead rule) b
all_ahead rule b [] bs h before = absurd (true≢false (sym h))
all_ahead rule b (k ∷ ks) bs h before =
    each_weaker (λ x. AllByRecursion (RuleBefore x) (k ∷ (ks ++ flat bs))) (IsAhead rule)
    (λ x g. ahead_of rule x k g.0 (false_of_not (is_lt (rule_cmp rule k.route.rule)) h)) b before

around_begun : (rule : Ruled) (b : List Kept) (bs : List (List Kept)) → AreCut (b ∷ bs) → AreFilled (b ∷ bs) → AreEachSorted (b ∷ bs)
    → Around rule (begun rule bs) (b ∷ bs)
around_begun rule b [] cut filled sorted = tt
around_begun rule b (c ∷ bs) cut filled sorted = at (begins_by rule c) refl (around_begun rule c bs cut.1 filled.1 sorted.1) where
  at : (o : Bool) → begins_by rule c ≡ o → Around rule (begun rule bs) (c ∷ bs) → Around rule (cond o (1 + begun rule bs) 0) (b ∷ c ∷ bs)
  at true e ih = subst (λ n. Around rule n (b ∷ c ∷ bs)) (sym next) (all_ahead rule b c bs e cut.0, ih) where
    next : 1 + begun rule bs ≡ suc (begun rule bs)
    next = omega arith
  at false e ih = all_after rule c bs e filled.0 sorted.1.0 cut.1.0

pub around_block : (rule : Ruled) (bs : List (List Kept)) → 0 < length bs → IsCut bs → AreSorted (routes_of (flat bs)) → Around rule (block_of rule bs) bs
around_block rule [] h cut sorted = absurd (omega arith)
around_block rule (b ∷ bs) h cut sorted = around_begun rule b bs cut.apart cut.filled (sorted_each (b ∷ bs) sorted)

pub around_from : (rule r : Ruled) (bs ds : List (List Kept)) (n : ℕ) → n ≡ block_of r ds → r ≡ rule → ds ≡ bs → 0 < length bs → IsCut bs
    → AreSorted (routes_of (flat bs)) → Around rule n bs
around_from rule r bs ds n e f g h cut sorted = subst (λ m. Around rule m bs) (sym (e ∙ ap₂ block_of f g)) (around_block rule bs h cut sorted)

-- A route put into the block in which its rule has its place.
pub flat_put : (k : Kept) (bs : List (List Kept)) (n : ℕ) (b : List Kept) → b ≡ get_or bs n b → Around k.route.rule n bs
    → flat (set bs n (put_kept k b)) ≡ put_kept k (flat bs)
flat_put k [] n b e h = absurd h
flat_put k (x ∷ xs) zero b e h = ap (λ ks. put_kept k ks ++ flat xs) e ∙ sym (put_left k x (flat xs) h)
flat_put k (x ∷ xs) (suc n) b e h = ap (λ ks. x ++ ks) (flat_put k xs n b e h.1) ∙ sym (put_right k x (flat xs) h.0)

filled_put : (k : Kept) (ks : List Kept) → is_filled (put_kept k ks) ≡ true
filled_put k [] = refl
filled_put k (x ∷ xs) = at (key_cmp k.route.rule k.route.peer x.route) where
  at : (o : Ordering) → is_filled (match_ordering o (k ∷ x ∷ xs) (k ∷ xs) (x ∷ put_kept k xs)) ≡ true
  at Less = refl
  at Equal = refl
  at Greater = refl

each_set : (P : List Kept → Type 0) (bs : List (List Kept)) (n : ℕ) (c : List Kept) → P c → AllByRecursion P bs → AllByRecursion P (set bs n c)
each_set P [] n c h all = all
each_set P (x ∷ xs) zero c h all = (h, all.1)
each_set P (x ∷ xs) (suc n) c h all = (all.0, each_set P xs n c h all.1)

filled_set : (bs : List (List Kept)) (n : ℕ) (c : List Kept) → is_filled c ≡ true → AreFilled bs → AreFilled (set bs n c)
filled_set [] n c h all = all
filled_set (x ∷ xs) zero c h all = all
filled_set (x ∷ xs) (suc n) c h all = each_set (λ b. is_filled b ≡ true) xs n c h all

apart_put : (k : Kept) (bs : List (List Kept)) (n : ℕ) (b : List Kept) → b ≡ get_or bs n b → Around k.route.rule n bs → AreCut bs
    → AreCut (set bs n (put_kept k b))
apart_put k [] n b e h cut = absurd h
apart_put k (x ∷ xs) zero b e h cut =
    (each-put (λ y. AllByRecursion (RuleBefore y) (flat xs)) k h b (subst (λ ks. AllBefore ks (flat xs)) (sym e) cut.0), cut.1)
apart_put k (x ∷ xs) (suc n) b e h cut = (
  subst (AllBefore x) (sym (flat_put k xs n b e h.1))
      (each_both (IsAhead k.route.rule) (λ y. AllByRecursion (RuleBefore y) (flat xs)) (λ y. AllByRecursion (RuleBefore y) (put_kept k (flat xs)))
      (λ y a all. each-put (RuleBefore y) k a (flat xs) all) x h.0 cut.0),
  apart_put k xs n b e h.1 cut.1,
)

pub cut_put : (k : Kept) (bs : List (List Kept)) (n : ℕ) (b : List Kept) → b ≡ get_or bs n b → Around k.route.rule n bs → IsCut bs
    → IsCut (set bs n (put_kept k b))
cut_put k bs n b e h cut = record { apart = apart_put k bs n b e h cut.apart; filled = filled_set bs n (put_kept k b) (filled_put k b) cut.filled }

pub sorted_put : (k : Kept) (bs : List (List Kept)) (n : ℕ) (b : List Kept) → b ≡ get_or bs n b → Around k.route.rule n bs
    → AreSorted (routes_of (flat bs)) → AreSorted (routes_of (flat (set bs n (put_kept k b))))
sorted_put k bs n b e h sorted =
    subst (λ ks. AreSorted (routes_of ks)) (sym (flat_put k bs n b e h))
    (subst AreSorted (sym (routes-put k (flat bs))) (sorted-put k.route (routes_of (flat bs)) sorted))

-- A key, which is in the block in which its rule has its place.
module _ (rule : Ruled) (peer : ℕ) where
  abbrev hits : Kept → Bool
  hits k = is_key rule peer k.route

  misses_ahead : (x : Kept) → IsAhead rule x → hits x ≡ false
  misses_ahead x h = ap (λ o. is_eq (ordering_then o (nat_cmp peer x.route.peer))) (rule_total.antisymm rule x.route.rule ∙ ap ordering_reverse h)

  misses_after : (y : Kept) → IsAfter rule y → hits y ≡ false
  misses_after y h = ap (λ o. is_eq (ordering_then o (nat_cmp peer y.route.peer))) h

  pub any_block : (bs : List (List Kept)) (n : ℕ) (b : List Kept) → b ≡ get_or bs n b → Around rule n bs
      → list_any (λ k. is_key rule peer k.route) b ≡ list_any (λ k. is_key rule peer k.route) (flat bs)
  any_block [] n b e h = absurd h
  any_block (x ∷ xs) zero b e h = ap (list_any hits) e ∙ any_front hits x (flat xs) (each_weaker (IsAfter rule) (λ k. hits k ≡ false) misses_after (flat xs) h)
  any_block (x ∷ xs) (suc n) b e h = any_block xs n b e h.1 ∙ any_back hits x (flat xs) (each_weaker (IsAhead rule) (λ k. hits k ≡ false) misses_ahead x h.0)

  pub flat_take : (bs : List (List Kept)) (n : ℕ) (b : List Kept) → b ≡ get_or bs n b → Around rule n bs
      → flat (set bs n (filter (is_other_key rule peer) b)) ≡ filter (is_other_key rule peer) (flat bs)
  flat_take [] n b e h = absurd h
  flat_take (x ∷ xs) zero b e h = ap (λ ks. filter (λ k. not (hits k)) ks ++ flat xs) e
      ∙ left_front hits x (flat xs) (each_weaker (IsAfter rule) (λ k. hits k ≡ false) misses_after (flat xs) h)
  flat_take (x ∷ xs) (suc n) b e h = ap (λ ks. x ++ ks) (flat_take xs n b e h.1)
      ∙ left_back hits x (flat xs) (each_weaker (IsAhead rule) (λ k. hits k ≡ false) misses_ahead x h.0)

-- What is left of blocks.
each_left : (P : Kept → Type 0) (p : Kept → Bool) (bs : List (List Kept)) (n : ℕ) (b : List Kept) → b ≡ get_or bs n b → AllByRecursion P (flat bs)
    → AllByRecursion P (flat (set bs n (filter p b)))
each_left P p [] n b e all = all
each_left P p (x ∷ xs) zero b e all =
    each_append P (filter p b) (flat xs) (each_filtered P p b (subst (AllByRecursion P) (sym e) (each_front P x (flat xs) all)))
    (each_back P x (flat xs) all)
each_left P p (x ∷ xs) (suc n) b e all =
    each_append P x (flat (set xs n (filter p b))) (each_front P x (flat xs) all) (each_left P p xs n b e (each_back P x (flat xs) all))

apart_left : (p : Kept → Bool) (bs : List (List Kept)) (n : ℕ) (b : List Kept) → b ≡ get_or bs n b → AreCut bs → AreCut (set bs n (filter p b))
apart_left p [] n b e cut = cut
apart_left p (x ∷ xs) zero b e cut =
    (each_filtered (λ y. AllByRecursion (RuleBefore y) (flat xs)) p b (subst (λ ks. AllBefore ks (flat xs)) (sym e) cut.0), cut.1)
apart_left p (x ∷ xs) (suc n) b e cut = (
  each_weaker (λ y. AllByRecursion (RuleBefore y) (flat xs)) (λ y. AllByRecursion (RuleBefore y) (flat (set xs n (filter p b))))
      (λ y all. each_left (RuleBefore y) p xs n b e all) x cut.0,
  apart_left p xs n b e cut.1,
)

is_some_block : (ks : List Kept) → (length ks == 0) ≡ false → is_filled ks ≡ true
is_some_block [] h = absurd (true≢false h)
is_some_block (k ∷ ks) h = refl

-- a block is left that isn't empty
pub cut_left : (p : Kept → Bool) (bs : List (List Kept)) (n : ℕ) (b : List Kept) → b ≡ get_or bs n b → (length (filter p b) == 0) ≡ false → IsCut bs
    → IsCut (set bs n (filter p b))
cut_left p bs n b e h cut = record { apart = apart_left p bs n b e cut.apart; filled = filled_set bs n (filter p b) (is_some_block (filter p b) h) cut.filled }

-- an empty block goes
pub flat_remove : (bs : List (List Kept)) (n : ℕ) (c : List Kept) → n < length bs → (length c == 0) ≡ true → flat (remove (set bs n c) n) ≡ flat (set bs n c)
flat_remove [] n c h z = absurd (omega arith)
flat_remove (x ∷ xs) zero c h z = ap (λ ks. ks ++ flat xs) (sym (empty c z))
flat_remove (x ∷ xs) (suc n) c h z = ap (λ ks. x ++ ks) (flat_remove xs n c (omega arith) z)

apart_remove : (bs : List (List Kept)) (n : ℕ) (c : List Kept) → n < length bs → (length c == 0) ≡ true → AreCut (set bs n c) → AreCut (remove (set bs n c) n)
apart_remove [] n c h z cut = absurd (omega arith)
apart_remove (x ∷ xs) zero c h z cut = cut.1
apart_remove (x ∷ xs) (suc n) c h z cut = (subst (AllBefore x) (sym (flat_remove xs n c (omega arith) z)) cut.0, apart_remove xs n c (omega arith) z cut.1)

each_removed : (P : List Kept → Type 0) (bs : List (List Kept)) (n : ℕ) (c : List Kept) → n < length bs → AllByRecursion P bs
    → AllByRecursion P (remove (set bs n c) n)
each_removed P [] n c h all = absurd (omega arith)
each_removed P (x ∷ xs) zero c h all = all.1
each_removed P (x ∷ xs) (suc n) c h all = (all.0, each_removed P xs n c (omega arith) all.1)

filled_remove : (bs : List (List Kept)) (n : ℕ) (c : List Kept) → n < length bs → AreFilled bs → AreFilled (remove (set bs n c) n)
filled_remove [] n c h all = absurd (omega arith)
filled_remove (x ∷ []) zero c h all = tt
filled_remove (x ∷ y ∷ ys) zero c h all = all.1
filled_remove (x ∷ xs) (suc n) c h all = each_removed (λ b. is_filled b ≡ true) xs n c (omega arith) all

pub cut_remove : (p : Kept → Bool) (bs : List (List Kept)) (n : ℕ) (b : List Kept) → b ≡ get_or bs n b → n < length bs
    → (length (filter p b) == 0) ≡ true → IsCut bs → IsCut (remove (set bs n (filter p b)) n)
cut_remove p bs n b e h z cut =
    record { apart = apart_remove bs n (filter p b) h z (apart_left p bs n b e cut.apart); filled = filled_remove bs n (filter p b) h cut.filled }

-- of each block what passes
flat_with : (ks : List Kept) (bs : List (List Kept)) → flat (with_block ks bs) ≡ ks ++ flat bs
flat_with [] bs = refl
flat_with (k ∷ ks) bs = refl

pub flat_kept : (p : Kept → Bool) (bs : List (List Kept)) → flat (keep_blocks p bs) ≡ filter p (flat bs)
flat_kept p [] = refl
flat_kept p (b ∷ bs) = flat_with (filter p b) (keep_blocks p bs) ∙ ap (λ ks. filter p b ++ ks) (flat_kept p bs) ∙ sym (filter-append p b (flat bs))

apart_with : (ks : List Kept) (bs : List (List Kept)) → AllBefore ks (flat bs) → AreCut bs → AreCut (with_block ks bs)
apart_with [] bs h cut = cut
apart_with (k ∷ ks) bs h cut = (h, cut)

apart_kept : (p : Kept → Bool) (bs : List (List Kept)) → AreCut bs → AreCut (keep_blocks p bs)
apart_kept p [] cut = tt
apart_kept p (b ∷ bs) cut = apart_with (filter p b) (keep_blocks p bs)
    (subst (AllBefore (filter p b)) (sym (flat_kept p bs)) (each_filtered (λ x. AllByRecursion (RuleBefore x) (filter p (flat bs))) p b
    (each_weaker (λ x. AllByRecursion (RuleBefore x) (flat bs)) (λ x. AllByRecursion (RuleBefore x) (filter p (flat bs)))
    (λ x all. each_filtered (RuleBefore x) p (flat bs) all) b cut.0))) (apart_kept p bs cut.1)

each_kept : (p : Kept → Bool) (bs : List (List Kept)) → AllByRecursion (λ b. is_filled b ≡ true) (keep_blocks p bs)
each_kept p [] = tt
each_kept p (b ∷ bs) = at (filter p b) (each_kept p bs) where
  at : (ks : List Kept) → AllByRecursion (λ b. is_filled b ≡ true) (keep_blocks p bs)
      → AllByRecursion (λ b. is_filled b ≡ true) (with_block ks (keep_blocks p bs))
  at [] ih = ih
  at (k ∷ ks) ih = (refl, ih)

all_but_first : (bs : List (List Kept)) → AllByRecursion (λ b. is_filled b ≡ true) bs → AreFilled bs
all_but_first [] h = tt
all_but_first (b ∷ bs) h = h.1

pub cut_kept : (p : Kept → Bool) (bs : List (List Kept)) → IsCut bs → IsCut (keep_blocks p bs)
cut_kept p bs cut = record { apart = apart_kept p bs cut.apart; filled = all_but_first (keep_blocks p bs) (each_kept p bs) }

pub retained_blocks : {F : Type 0} (T : F → List Kept → Bool → F → List Kept → Type 0) (p : Kept → Bool) (f : F)
    → ((v : List Kept) (b : Bool) (f' : F) (w : List Kept) → T f v b f' w → (b ≡ not (length w == 0)) × (w ≡ filter p v) × (f' ≡ f))
    → (bs kept : List (List Kept)) → RetainsInTurn T f bs kept → kept ≡ keep_blocks p bs
retained_blocks T p f law [] kept h = h
retained_blocks T p f law (v ∷ vs) kept (b, f', w, call, rest, more, is) = is
    ∙ at b w (law v b f' w call) (retained_blocks T p f law vs rest (subst (λ g. RetainsInTurn T g vs rest) (law v b f' w call).2 more)) where
      at : (b : Bool) (w : List Kept) → (b ≡ not (length w == 0)) × (w ≡ filter p v) × (f' ≡ f) → rest ≡ keep_blocks p vs
          → cond b (w ∷ rest) rest ≡ with_block (filter p v) (keep_blocks p vs)
      at b w h ih = ap (λ c. cond c (w ∷ rest) rest) h.0 ∙ one w ∙ ap₂ (λ ks ls. with_block ks ls) h.1 ih where
        one : (w : List Kept) → cond (not (length w == 0)) (w ∷ rest) rest ≡ with_block w rest
        one [] = refl
        one (k ∷ ks) = ap (λ c. cond (not c) ((k ∷ ks) ∷ rest) rest) (not_empty (length ks))

-- Each block changed by itself.
pub flat_map : (f : Kept → Kept) (bs : List (List Kept)) → flat (map (map f) bs) ≡ map f (flat bs)
flat_map f [] = refl
flat_map f (b ∷ bs) = ap (λ ks. map f b ++ ks) (flat_map f bs) ∙ sym (map-append f b (flat bs))

module _ (f : Kept → Kept) (stays : (k : Kept) → (f k).route ≡ k.route) where
  before_map : (k : Kept) (ys : List Kept) → AllByRecursion (RuleBefore k) ys → AllByRecursion (RuleBefore (f k)) (map f ys)
  before_map k [] h = tt
  before_map k (y ∷ ys) h = (ap₂ (λ r s. rule_cmp r.rule s.rule) (stays k) (stays y) ∙ h.0, before_map k ys h.1)

  all_before_map : (xs ys : List Kept) → AllBefore xs ys → AllBefore (map f xs) (map f ys)
  all_before_map [] ys h = tt
  all_before_map (x ∷ xs) ys h = (before_map x ys h.0, all_before_map xs ys h.1)

  apart_map : (bs : List (List Kept)) → AreCut bs → AreCut (map (map f) bs)
  apart_map [] cut = tt
  apart_map (b ∷ bs) cut = (subst (AllBefore (map f b)) (sym (flat_map f bs)) (all_before_map b (flat bs) cut.0), apart_map bs cut.1)

  filled_one : (b : List Kept) → is_filled b ≡ true → is_filled (map f b) ≡ true
  filled_one [] h = h
  filled_one (k ∷ ks) h = refl

  each_filled : (bs : List (List Kept)) → AllByRecursion (λ b. is_filled b ≡ true) bs → AllByRecursion (λ b. is_filled b ≡ true) (map (map f) bs)
  each_filled [] h = tt
  each_filled (b ∷ bs) h = (filled_one b h.0, each_filled bs h.1)

  filled_map : (bs : List (List Kept)) → AreFilled bs → AreFilled (map (map f) bs)
  filled_map [] h = tt
  filled_map (b ∷ bs) h = each_filled bs h

  pub cut_map : (bs : List (List Kept)) → IsCut bs → IsCut (map (map f) bs)
  cut_map bs cut = record { apart = apart_map bs cut.apart; filled = filled_map bs cut.filled }

pub each_flat : (P : Kept → Type 0) (bs : List (List Kept)) → AllByRecursion (AllByRecursion P) bs → AllByRecursion P (flat bs)
each_flat P [] h = tt
each_flat P (b ∷ bs) h = each_append P b (flat bs) h.0 (each_flat P bs h.1)

pub flat_each : (P : Kept → Type 0) (bs : List (List Kept)) → AllByRecursion P (flat bs) → AllByRecursion (AllByRecursion P) bs
flat_each P [] h = tt
flat_each P (b ∷ bs) h = (each_front P b (flat bs) h, flat_each P bs (each_back P b (flat bs) h))

-- One block cut in two.
pub flat_cut : (bs : List (List Kept)) (n place : ℕ) → flat (cut_list n place bs) ≡ flat bs
flat_cut [] n place = refl
flat_cut (b ∷ bs) zero place = sym (append_assoc (take place b) (drop place b) (flat bs)) ∙ ap (λ ks. ks ++ flat bs) (take-append-drop place b)
flat_cut (b ∷ bs) (suc n) place = ap (λ ks. b ++ ks) (flat_cut bs n place)

-- the block has a border at the place
abbrev pub HasBorder : ℕ → ℕ → List (List Kept) → Type 0
HasBorder n place [] = Unit {0}
HasBorder zero place (b ∷ bs) = (0 < place) × (place < length b) × AllBefore (take place b) (drop place b)
HasBorder (suc n) place (b ∷ bs) = HasBorder n place bs

pub border_at : (bs : List (List Kept)) (n place : ℕ) (b : List Kept) → n < length bs → b ≡ get_or bs n b → 0 < place → place < length b
    → AllBefore (take place b) (drop place b) → HasBorder n place bs
border_at [] n place b h e p l before = tt
border_at (x ∷ xs) zero place b h e p l before = subst (λ ks. (0 < place) × (place < length ks) × AllBefore (take place ks) (drop place ks)) e (p, l, before)
border_at (x ∷ xs) (suc n) place b h e p l before = border_at xs n place b (omega arith) e p l before

pub can_cut : (bs : List (List Kept)) (n place : ℕ) (b : List Kept) → n < length bs → b ≡ get_or bs n b → place ≤ length b → CanCut n place bs
can_cut [] n place b h e l = absurd (omega arith)
can_cut (x ∷ xs) zero place b h e l = subst (λ ks. place ≤ length ks) e l
can_cut (x ∷ xs) (suc n) place b h e l = can_cut xs n place b (omega arith) e l

apart_cut : (bs : List (List Kept)) (n place : ℕ) → HasBorder n place bs → AreCut bs → AreCut (cut_list n place bs)
apart_cut [] n place h cut = cut
apart_cut (b ∷ bs) zero place h cut = (
  each_both (λ x. AllByRecursion (RuleBefore x) (drop place b)) (λ x. AllByRecursion (RuleBefore x) (flat bs))
      (λ x. AllByRecursion (RuleBefore x) (drop place b ++ flat bs)) (λ x a c. each_append (RuleBefore x) (drop place b) (flat bs) a c)
      (take place b) h.2 (take_each (λ x. AllByRecursion (RuleBefore x) (flat bs)) place b cut.0),
  (drop_each (λ x. AllByRecursion (RuleBefore x) (flat bs)) place b cut.0, cut.1),
)
apart_cut (b ∷ bs) (suc n) place h cut = (subst (AllBefore b) (sym (flat_cut bs n place)) cut.0, apart_cut bs n place h cut.1)

filled_take : (n : ℕ) (ks : List Kept) → 0 < n → is_filled ks ≡ true → is_filled (take n ks) ≡ true
filled_take zero ks h f = absurd (omega arith)
filled_take (suc n) [] h f = f
filled_take (suc n) (k ∷ ks) h f = refl

filled_drop : (n : ℕ) (ks : List Kept) → n < length ks → is_filled (drop n ks) ≡ true
filled_drop n [] h = absurd (omega arith)
filled_drop zero (k ∷ ks) h = refl
filled_drop (suc n) (k ∷ ks) h = filled_drop n ks (omega arith)

each_cut : (bs : List (List Kept)) (n place : ℕ) → HasBorder n place bs → AllByRecursion (λ b. is_filled b ≡ true) bs
    → AllByRecursion (λ b. is_filled b ≡ true) (cut_list n place bs)
each_cut [] n place h all = all
each_cut (b ∷ bs) zero place h all = (filled_take place b h.0 all.0, (filled_drop place b h.1, all.1))
each_cut (b ∷ bs) (suc n) place h all = (all.0, each_cut bs n place h all.1)

filled_cut : (bs : List (List Kept)) (n place : ℕ) → HasBorder n place bs → AreFilled bs → AreFilled (cut_list n place bs)
filled_cut [] n place h all = all
filled_cut (b ∷ bs) zero place h all = (filled_drop place b h.1, all)
filled_cut (b ∷ bs) (suc n) place h all = each_cut bs n place h all

pub cut_cut : (bs : List (List Kept)) (n place : ℕ) → HasBorder n place bs → IsCut bs → IsCut (cut_list n place bs)
cut_cut bs n place h cut = record { apart = apart_cut bs n place h cut.apart; filled = filled_cut bs n place h cut.filled }

-- the list that the calls leave
pub cut_is : (bs : List (List Kept)) (n m place : ℕ) (b : List Kept) → m ≡ n + 1 → CanCut n place bs → b ≡ get_or (insert bs m []) n b
    → set (set (insert bs m []) n (take place b)) m (drop place b) ≡ cut_list n place bs
cut_is [] n m place b e h is = absurd h
cut_is (x ∷ xs) zero m place b e h is = ap (λ j. set (set (insert (x ∷ xs) j []) 0 (take place b)) j (drop place b)) (e ∙ one)
    ∙ ap (λ ks. take place ks ∷ drop place ks ∷ xs) same where
      one : 0 + 1 ≡ suc zero
      one = omega arith

      same : b ≡ x
      same = is ∙ ap (λ j. get_or (insert (x ∷ xs) j []) 0 b) (e ∙ one)
cut_is (x ∷ xs) (suc n) m place b e h is = ap (λ j. set (set (insert (x ∷ xs) j []) (suc n) (take place b)) j (drop place b)) next
    ∙ ap (λ ls. x ∷ ls) (cut_is xs n (n + 1) place b refl h (is ∙ ap (λ j. get_or (insert (x ∷ xs) j []) (suc n) b) next)) where
      next : m ≡ suc (n + 1)
      next = e ∙ (let s : suc n + 1 ≡ suc (n + 1) = omega arith in s)

-- where a second block stands there is a route
pub some_left : (bs : List (List Kept)) → 2 ≤ length bs → AreFilled bs → false ≡ (length (flat bs) == 0)
some_left [] h f = absurd (omega arith)
some_left (b ∷ []) h f = absurd (omega arith)
some_left (b ∷ [] ∷ cs) h f = absurd (true≢false (sym f.0))
some_left ([] ∷ (k ∷ ks) ∷ cs) h f = sym (not_empty (length (ks ++ flat cs)))
some_left ((x ∷ xs) ∷ (k ∷ ks) ∷ cs) h f = sym (not_empty (length (xs ++ (k ∷ (ks ++ flat cs)))))

-- there is a block to be cut, and a place in it
pub place_within : (bs : List (List Kept)) (n m place : ℕ) (b : List Kept) → m ≡ n + 1 → CanCut n place bs → b ≡ get_or (insert bs m []) n b → place ≤ length b
place_within [] n m place b e h is = absurd h
place_within (x ∷ xs) zero m place b e h is = subst (λ ks. place ≤ length ks) (sym (is ∙ ap (λ j. get_or (insert (x ∷ xs) j []) 0 b) (e ∙ one))) h where
  one : 0 + 1 ≡ suc zero
  one = omega arith
place_within (x ∷ xs) (suc n) m place b e h is = place_within xs n (n + 1) place b refl h (is ∙ ap (λ j. get_or (insert (x ∷ xs) j []) (suc n) b) next) where
  next : m ≡ suc (n + 1)
  next = e ∙ (let s : suc n + 1 ≡ suc (n + 1) = omega arith in s)

-- what follows either way
pub either_way : {T E : Type 0} (r : Result T E) (A B G : Type 0) → OnOk r A → OnErr r B → (A → G) → (B → G) → G
either_way (Ok t) A B G a b f g = f a
either_way (Err e) A B G a b f g = g b

-- what a call leaves of a vector whose slice it changed
pub written : (f : List Kept → List Kept) (xs new now rest : List (List Kept)) (n : ℕ) → new ≡ map f now → now ≡ xs → length now ≡ n
    → take n (new ++ rest) ≡ map f xs
written f xs new now rest n e g l = ap (λ ys. take n (ys ++ rest)) (e ∙ ap (map f) g) ∙ ap (λ m. take m (map f xs ++ rest)) (sym l ∙ ap length g)
    ∙ front xs where
      front : (xs : List (List Kept)) → take (length xs) (map f xs ++ rest) ≡ map f xs
      front [] = refl
      front (x ∷ xs) = ap (λ ys. f x ∷ ys) (front xs)
