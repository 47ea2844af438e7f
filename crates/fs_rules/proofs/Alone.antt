-- That a route between those of other rules is the only one of its rule.
use Rattle.fs_rules.proofs.Words.{ℕ, zero, suc, ◌≡◌, ◌+◌, ◌-◌, ◌<◌, refl, sym, ap, subst, ◌∙◌, Bool, true, false, true≢false, ◌&&◌, ◌||◌, List, []}
use Rattle.fs_rules.proofs.Words.{◌∷◌, length, slice_get, drop, Some, Ordering, Less, Equal, Greater, is_lt, nat_cmp, arith, AllByRecursion}
use Rattle.fs_rules.proofs.Words.{ordering_then, is_gt, tied_itself, nat_tests, get_or_from_slice_get, false_of_not, each_of_map, each_weaker}
use Rattle.fs_rules.proofs.Words.{rule_total, preferred, preference_total, Kept, key_cmp, is_valid, same_rule, beats, routes_of, AreSorted, place_in}
use Rattle.fs_rules.proofs.Words.{is_beaten, is_apart, is_before_rule, NotBefore, not_after_later}
use Rattle.fs_rules.proofs.Stepping.{rest_is}
use Rattle.fs_rules.proofs.Runs.{run_ends, beaten_from, sorted-drop, starts_at, starts_first}

-- no route is preferred to itself
itself : (k : Kept) (rest : Bool) → ((is_valid k.validity && beats k.route k.route) || rest) ≡ rest
itself k rest = at (is_valid k.validity) (same_rule k.route k.route) (preferred (k.route.peer, k.route.path) (k.route.peer, k.route.path))
    (ap is_lt (tied_itself preference_total (k.route.peer, k.route.path))) where
      at : (a b c : Bool) → c ≡ false → ((a && (b && c)) || rest) ≡ rest
      at true true true e = absurd (true≢false e)
      at true true false e = refl
      at true false c e = refl
      at false b c e = refl

-- nor does it stand before its own rule
not_before_itself : (k : Kept) → NotBefore k k
not_before_itself k = ap (λ o. is_gt (ordering_then o (nat_cmp 0 k.route.peer))) (tied_itself rule_total k.route.rule)
    ∙ least (nat_cmp 0 k.route.peer) refl where
      least : (o : Ordering) → nat_cmp 0 k.route.peer ≡ o → is_gt (nat_cmp 0 k.route.peer) ≡ false
      least Less e = ap is_gt e
      least Equal e = ap is_gt e
      least Greater e = absurd (grind (arith, nat_tests))

behind : (k : Kept) (rest : List Kept) → AreSorted (routes_of (k ∷ rest)) → is_apart k (slice_get rest 0) ≡ true → is_beaten rest k ≡ false
behind k [] sorted h = refl
behind k (s ∷ rest) sorted h = run_ends k s rest after sorted.1 (false_of_not (same_rule s.route k.route) h) where
  after : AllByRecursion (NotBefore k) (s ∷ rest)
  after = each_weaker (λ t. key_cmp k.route.rule k.route.peer t.route ≡ Less) (NotBefore k)
      (λ t less. not_after_later k k t (not_before_itself k) less) (s ∷ rest)
      (each_of_map (λ k. k.route) (λ t. key_cmp k.route.rule k.route.peer t ≡ Less) (s ∷ rest) sorted.0)

first_left : (xs : List Kept) (n : ℕ) → slice_get (drop n xs) 0 ≡ slice_get xs n
first_left [] zero = refl
first_left [] (suc n) = refl
first_left (x ∷ xs) zero = refl
first_left (x ∷ xs) (suc n) = first_left xs n

alone : (k : Kept) (xs : List Kept) (i : ℕ) → AreSorted (routes_of xs) → i < length xs → slice_get xs i ≡ Some k
    → is_apart k (slice_get xs (i + 1)) ≡ true → i ≡ place_in k.route.rule 0 xs → is_beaten xs k ≡ false
alone k xs i sorted inside there next place = sym (beaten_from k xs) ∙ ap (λ n. is_beaten (drop n xs) k) (sym place) ∙ ap (λ ys. is_beaten ys k) from
    ∙ itself k (is_beaten (drop (i + 1) xs) k)
    ∙ behind k (drop (i + 1) xs) (subst (λ ys. AreSorted (routes_of ys)) from (sorted-drop xs i sorted)) (ap (is_apart k) (first_left xs (i + 1)) ∙ next) where
      from : drop i xs ≡ k ∷ drop (i + 1) xs
      from = rest_is xs i k inside (sym (get_or_from_slice_get xs i k k there))

pub alone_first : (k : Kept) (xs : List Kept) (i : ℕ) → AreSorted (routes_of xs) → i < length xs → slice_get xs i ≡ Some k
    → is_apart k (slice_get xs (i + 1)) ≡ true → i ≡ 0 → is_beaten xs k ≡ false
alone_first k xs i sorted inside there next none =
    alone k xs i sorted inside there next
    (starts_first k.route.rule xs i sorted none inside (ap (is_before_rule k.route.rule) there ∙ not_before_itself k))

pub alone_at : (k : Kept) (xs : List Kept) (i : ℕ) → AreSorted (routes_of xs) → i < length xs → slice_get xs i ≡ Some k
    → is_apart k (slice_get xs (i + 1)) ≡ true → 0 < i → is_before_rule k.route.rule (slice_get xs (i - 1)) ≡ true → is_beaten xs k ≡ false
alone_at k xs i sorted inside there next positive before =
    alone k xs i sorted inside there next
    (starts_at k.route.rule xs i sorted inside positive before (ap (is_before_rule k.route.rule) there ∙ not_before_itself k))
