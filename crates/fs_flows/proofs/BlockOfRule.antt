-- The block in which a rule has its place, found by the rules with which blocks begin; and where a block is cut.
use Rattle.fs_flows.proofs.Words.{ℕ, zero, suc, ◌≡◌, ◌+◌, ◌<◌, ◌≤◌, refl, sym, ap, subst, ◌∙◌, Bool, true, false, true≢false, not, cond, List, []}
use Rattle.fs_flows.proofs.Words.{◌∷◌, length, get_or, take, drop, Ordering, Less, Equal, Greater, nat_cmp, arith, AllByRecursion, AllWithin}
use Rattle.fs_flows.proofs.Words.{IsPartitionedBy, tied_itself, is_lt, is_gt, match_ordering, ordering_then, ordering_reverse, each_weaker}
use Rattle.fs_flows.proofs.Words.{false_of_not, Ruled, rule_cmp, rule_total, Kept, key_cmp, AreSorted, routes_of, place_in, flat, RuleBefore}
use Rattle.fs_flows.proofs.Words.{AllBefore, AreCut, is_filled, IsCut, begins_by, begun, block_of}
use Rattle.fs_flows.proofs.{Apart.{each_front, each_back}, Cutting.{ahead_of}, KeyPlaces.{NotBefore, not_before, least_after}}

-- what holds of all routes holds of those of one block
each_in : (P : Kept → Type 0) (bs : List (List Kept)) (n : ℕ) (d : List Kept) → n < length bs → AllByRecursion P (flat bs) → AllByRecursion P (get_or bs n d)
each_in P [] n d h all = absurd (omega arith)
each_in P (b ∷ bs) zero d h all = each_front P b (flat bs) all
each_in P (b ∷ bs) (suc n) d h all = each_in P bs n d (omega arith) (each_back P b (flat bs) all)

not_lt : (rule : Ruled) (x : Kept) → rule_cmp x.route.rule rule ≡ Less → is_lt (rule_cmp rule x.route.rule) ≡ false
not_lt rule x h = ap is_lt (rule_total.antisymm rule x.route.rule ∙ ap ordering_reverse h)

begins_earlier : (rule : Ruled) (b c : List Kept) → is_filled b ≡ true → AllByRecursion (λ x. AllByRecursion (RuleBefore x) c) b
    → begins_by rule c ≡ true → begins_by rule b ≡ true
begins_earlier rule [] c f before h = absurd (true≢false (sym f))
begins_earlier rule (x ∷ xs) [] f before h = absurd (true≢false (sym h))
begins_earlier rule (x ∷ xs) (k ∷ ks) f before h = ap not (not_lt rule x (ahead_of rule x k before.0.0 (false_of_not (is_lt (rule_cmp rule k.route.rule)) h)))

pub begun_parts : (rule : Ruled) (bs : List (List Kept)) → AreCut bs → AllByRecursion (λ b. is_filled b ≡ true) bs → IsPartitionedBy (begins_by rule) bs
begun_parts rule [] cut f i j d h k = absurd (omega arith)
begun_parts rule (b ∷ bs) cut f zero zero d h k = λ e. e
begun_parts rule (b ∷ bs) cut f zero (suc j) d h k = λ e. begins_earlier rule b (get_or bs j d) f.0
    (each_weaker (λ x. AllByRecursion (RuleBefore x) (flat bs)) (λ x. AllByRecursion (RuleBefore x) (get_or bs j d))
    (λ x all. each_in (RuleBefore x) bs j d (omega arith) all) b cut.0) e
begun_parts rule (b ∷ bs) cut f (suc i) zero d h k = absurd (omega arith)
begun_parts rule (b ∷ bs) cut f (suc i) (suc j) d h k = begun_parts rule bs cut.1 f.1 i j d (omega arith) (omega arith)

pub begun_from : (rule : Ruled) (bs : List (List Kept)) (i : ℕ) → i ≤ length bs → AllWithin (λ b. begins_by rule b ≡ true) bs 0 i
    → AllWithin (λ b. begins_by rule b ≡ false) bs i (length bs) → i ≡ begun rule bs
begun_from rule [] i h front back = omega arith
begun_from rule (b ∷ bs) zero h front back = at (begins_by rule b) refl where
  at : (o : Bool) → begins_by rule b ≡ o → 0 ≡ cond o (1 + begun rule bs) 0
  at true e = absurd (true≢false (sym e ∙ back 0 b (omega arith) (omega arith)))
  at false e = refl
begun_from rule (b ∷ bs) (suc i) h front back =
    at (begins_by rule b) refl (begun_from rule bs i (omega arith) (λ k d low high. front (suc k) d (omega arith) (omega arith))
    (λ k d low high. back (suc k) d (omega arith) (omega arith))) where
      at : (o : Bool) → begins_by rule b ≡ o → i ≡ begun rule bs → suc i ≡ cond o (1 + begun rule bs) 0
      at true e rest = omega arith
      at false e rest = absurd (true≢false (sym (front 0 b (omega arith) (omega arith)) ∙ e))

-- The routes before those of a rule are of earlier rules.
taken_after : (k : Kept) (xs : List Kept) → AllByRecursion (λ x. rule_cmp k.route.rule x.route.rule ≡ Greater) (take (place_in k.route.rule 0 xs) xs)
taken_after k [] = tt
taken_after k (x ∷ xs) = at (key_cmp k.route.rule 0 x.route) refl (taken_after k xs) where
  at : (o : Ordering) → key_cmp k.route.rule 0 x.route ≡ o
      → AllByRecursion (λ x. rule_cmp k.route.rule x.route.rule ≡ Greater) (take (place_in k.route.rule 0 xs) xs)
      → AllByRecursion (λ x. rule_cmp k.route.rule x.route.rule ≡ Greater) (take (match_ordering o 0 0 (1 + place_in k.route.rule 0 xs)) (x ∷ xs))
  at Less e ih = tt
  at Equal e ih = tt
  at Greater e ih = subst (λ n. AllByRecursion (λ x. rule_cmp k.route.rule x.route.rule ≡ Greater) (take n (x ∷ xs))) (sym next)
      (least_after (rule_cmp k.route.rule x.route.rule) x.route.peer e, ih) where
        next : 1 + place_in k.route.rule 0 xs ≡ suc (place_in k.route.rule 0 xs)
        next = omega arith

before_border : (k x y : Kept) → rule_cmp k.route.rule x.route.rule ≡ Greater → NotBefore k y → RuleBefore x y
before_border k x y h g = at (rule_cmp k.route.rule y.route.rule) refl g where
  earlier : rule_cmp x.route.rule k.route.rule ≡ Less
  earlier = rule_total.antisymm x.route.rule k.route.rule ∙ ap ordering_reverse h

  at : (o : Ordering) → rule_cmp k.route.rule y.route.rule ≡ o → is_gt (ordering_then o (nat_cmp 0 y.route.peer)) ≡ false → RuleBefore x y
  at Less e g = rule_total.trans x.route.rule k.route.rule y.route.rule earlier e
  at Equal e g = rule_total.antisymm x.route.rule y.route.rule ∙ ap ordering_reverse (sym (rule_total.congr k.route.rule y.route.rule x.route.rule e) ∙ h)
  at Greater e g = absurd (true≢false g)

pub apart_at : (k : Kept) (xs : List Kept) → AreSorted (routes_of xs) → AllBefore (take (place_in k.route.rule 0 xs) xs) (drop (place_in k.route.rule 0 xs) xs)
apart_at k xs sorted = each_weaker (λ x. rule_cmp k.route.rule x.route.rule ≡ Greater)
    (λ x. AllByRecursion (RuleBefore x) (drop (place_in k.route.rule 0 xs) xs))
    (λ x h. each_weaker (NotBefore k) (RuleBefore x) (λ y g. before_border k x y h g) (drop (place_in k.route.rule 0 xs) xs) (not_before k xs sorted))
    (take (place_in k.route.rule 0 xs) xs) (taken_after k xs)

-- its first route stands no later than any of its routes
pub place_up_to : (k : Kept) (xs : List Kept) (i : ℕ) → i < length xs → k ≡ get_or xs i k → place_in k.route.rule 0 xs ≤ i
place_up_to k [] i l h = omega arith
place_up_to k (x ∷ xs) zero l h = at (key_cmp k.route.rule 0 x.route) refl where
  at : (o : Ordering) → key_cmp k.route.rule 0 x.route ≡ o → match_ordering o 0 0 (1 + place_in k.route.rule 0 xs) ≤ 0
  at Less e = omega arith
  at Equal e = omega arith
  at Greater e = absurd (no (sym (tied_itself rule_total k.route.rule) ∙ ap (λ (z : Kept). rule_cmp k.route.rule z.route.rule) h
      ∙ least_after (rule_cmp k.route.rule x.route.rule) x.route.peer e)) where
        no : Equal ≡ Greater → ⊥
        no e = cc
place_up_to k (x ∷ xs) (suc i) l h = at (key_cmp k.route.rule 0 x.route) (place_up_to k xs i (omega arith) h) where
  at : (o : Ordering) → place_in k.route.rule 0 xs ≤ i → match_ordering o 0 0 (1 + place_in k.route.rule 0 xs) ≤ suc i
  at Less ih = omega arith
  at Equal ih = omega arith
  at Greater ih = omega (arith, ih)

-- of a list's blocks behind the first
pub later_parts : (rule : Ruled) (bs later : List (List Kept)) → later ≡ drop 1 bs → IsCut bs → IsPartitionedBy (begins_by rule) later
later_parts rule [] later e cut = subst (IsPartitionedBy (begins_by rule)) (sym e) (begun_parts rule [] tt tt)
later_parts rule (b ∷ bs) later e cut = subst (IsPartitionedBy (begins_by rule)) (sym e) (begun_parts rule bs cut.apart.1 cut.filled)

pub later_from : (rule : Ruled) (bs later : List (List Kept)) (i : ℕ) → later ≡ drop 1 bs → i ≤ length later
    → AllWithin (λ b. begins_by rule b ≡ true) later 0 i → AllWithin (λ b. begins_by rule b ≡ false) later i (length later) → i ≡ block_of rule bs
later_from rule bs later i e h front back = begun_from rule later i h front back ∙ ap (begun rule) e ∙ at bs where
  at : (bs : List (List Kept)) → begun rule (drop 1 bs) ≡ block_of rule bs
  at [] = refl
  at (b ∷ bs) = refl
