-- The updates of rules pass no limit of as many routes.
use Rattle.std.proofs.{Common.{flat_map, is_some}, lemmas.{List.Sums.{count_by-le-length, length-filter}, Map.Made.{distinct_count-le}}}
use Rattle.std.specs.Set.{distinct_count}
use Rattle.fs_peering.proofs.Words.{Config, Peer, Sending, Sent, Update, first_over, fronts, is_over, routes_left, update_sent, ◌≡◌, ℕ, suc, ◌≤◌}
use Rattle.fs_peering.proofs.Words.{nat_lt, List, [], ◌∷◌, length, map, filter, find, Bool, true, false, cond, Option, Some, None, refl, ap, arith}
use Rattle.fs_peering.proofs.Words.{nat_tests, MayHold}
use Rattle.fs_attrs.specs.Update.{gives_prefixes, gives_rules}
use Rattle.fs_desk.specs.Updates.{flow_left, is_rule, path_left, same_prefix}

-- a test that none of the updates of so many rules passes finds none of their fronts
find_map : {A B : Type 0} (test : B → Bool) (f : A → B) (xs : List A) → find (λ x. test (f x)) xs ≡ None → find test (map f xs) ≡ None
find_map test f [] h = refl
find_map test f (x ∷ xs) h = at (test (f x)) h (find_map test f xs)
  where
    at : (b : Bool) → cond b (Some x) (find (λ x. test (f x)) xs) ≡ None → (find (λ x. test (f x)) xs ≡ None → find test (map f xs) ≡ None)
        → cond b (Some (f x)) (find test (map f xs)) ≡ None
    at true k ih = absurd cc
    at false k ih = ih k

none_found : {A B : Type 0} (f : A → B) (test : List B → Bool) (xs : List A) → ((some : List A) → length some ≤ length xs → test (map f some) ≡ false)
    → find test (fronts (map f xs)) ≡ None
none_found f test [] h = refl
none_found {A = A} f test (x ∷ xs) h =
    by (test (f x ∷ [])) (h (x ∷ []) (omega arith))
    (find_map test (λ front. f x ∷ front) (fronts (map f xs)) (none_found f (λ front. test (f x ∷ front)) xs (λ some few. h (x ∷ some) (omega (arith, few)))))
  where
    by : (b : Bool) → b ≡ false → find test (map (λ front. f x ∷ front) (fronts (map f xs))) ≡ None
        → cond b (Some (f x ∷ [])) (find test (map (λ front. f x ∷ front) (fronts (map f xs)))) ≡ None
    by true e k = absurd cc
    by false e k = k

module _ (config : Config) (peer : Peer) (sending : Sending) where
  abbrev updates : List Sent → List Update
  updates rules = map (update_sent config peer sending) rules

  no_prefixes : (rules : List Sent) → flat_map gives_prefixes (updates rules) ≡ []
  no_prefixes [] = refl
  no_prefixes (sent ∷ rules) = no_prefixes rules

  one_each : (rules : List Sent) → length (flat_map gives_rules (updates rules)) ≡ length rules
  one_each [] = refl
  one_each (sent ∷ rules) = ap suc (one_each rules)

  few_left : (rules : List Sent) → routes_left (updates rules) ≤ length rules
  few_left rules =
      let prefixes = ap (λ ps. distinct_count same_prefix (filter (λ prefix. is_some (path_left prefix (updates rules))) ps)) (no_prefixes rules) in
      let kept = filter (λ rule. is_some (flow_left rule (updates rules))) (flat_map gives_rules (updates rules)) in
      let counted : distinct_count is_rule kept ≤ length kept = distinct_count-le is_rule kept in
      let size = length-filter (λ rule. is_some (flow_left rule (updates rules))) (flat_map gives_rules (updates rules)) in
      let fewer = count_by-le-length (λ rule. is_some (flow_left rule (updates rules))) (flat_map gives_rules (updates rules)) in
      let all = one_each rules in
      omega (arith, prefixes, counted, size, fewer, all)

  not_over : (most count : ℕ) → count ≤ most → nat_lt most count ≡ false
  not_over most count h = grind (arith, nat_tests, h)

  pub within : (most : Option ℕ) (rules : List Sent) → MayHold most (length rules) → first_over most (updates rules) ≡ None
  within None rules may = none_found (update_sent config peer sending) (λ front. is_over None (routes_left front)) rules (λ some few. refl)
  within (Some most) rules may =
      none_found (update_sent config peer sending) (λ front. is_over (Some most) (routes_left front)) rules (λ some few.
      let left = few_left some in
      not_over most (routes_left (updates some)) (omega (arith, left, few, may)))
