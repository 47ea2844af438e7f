-- A peer that holds what its updates leave holds as many routes as they leave.
use Rattle.std.proofs.Common.{Less, is_eq}
use Rattle.fs_desk.proofs.Words.{◌≡◌, ◌==◌, ℕ, ◌+◌, Bool, true, false, true≢false, ◌&&◌, ◌||◌, cond, if◌then◌else◌, is_some, List, [], ◌∷◌, map}
use Rattle.fs_desk.proofs.Words.{filter, find, flat_map, Option, Some, None, option_map, option_and_then, refl, sym, ap, ap₂, ◌∙◌, subst, arith}
use Rattle.fs_desk.proofs.Words.{nat_tests, is_at, IsEquivalence, eq_by_cmp_equiv, list_any, AllByRecursion, is_some-lookup, and_first, and_second}
use Rattle.fs_desk.proofs.Words.{and_both, or_first, or_second, same_tests, each, afi_of, Path, eq_itself, equal_of_eq, Ruled, shown, rule_total}
use Rattle.fs_desk.proofs.Words.{place_cmp, Route, Place, IsPrefix, Shown, Update, gives_prefixes, gives_rules, FlowRoute, Held, is_key, held_count}
use Rattle.fs_desk.proofs.Words.{IsListed, flow_key, flow_key_cmp, given_of, routes_left, IsLeft, last_such, same_prefix, gives_at, tells_of}
use Rattle.fs_desk.proofs.Words.{path_left, is_rule, rule_given, tells_of_rule, given_with, flow_left, Given}
use Rattle.fs_desk.proofs.ChangesJoined.{last_there}
use Rattle.fs_desk.proofs.CountedKeys.{any_on, any_flat, any_map, any_own, distinct_own, counted_own}
use Rattle.fs_desk.proofs.Keys.{and_swapped, place_same, key_same}
use Rattle.fs_base.proofs.Covers.{same_family}

-- What is left was given by some update.
last_in : {A : Type 0} (test f : A → Bool) (xs : List A) → (elim (last_such test xs) as (λ _. Bool) [ None ↦ false | Some x ↦ f x ]) ≡ true
    → list_any f xs ≡ true
last_in test f [] h = absurd (true≢false (sym h))
last_in {A = A} test f (x ∷ xs) h = at (last_such test xs) (test x) h (last_in test f xs) where
  at : (o : Option A) (b : Bool)
      → (elim (elim o as (λ _. Option A) [ Some found ↦ Some found | None ↦ if b then Some x else None ]) as
      (λ _. Bool) [ None ↦ false | Some y ↦ f y ]) ≡ true
      → ((elim o as (λ _. Bool) [ None ↦ false | Some y ↦ f y ]) ≡ true → list_any f xs ≡ true) → (f x || list_any f xs) ≡ true
  at (Some found) b k ih = or_second (f x) (list_any f xs) (ih k)
  at None true k ih = or_first (f x) (list_any f xs) k
  at None false k ih = absurd (true≢false (sym k))

path_given : (q : Shown) (updates : List Update) → is_some (path_left q updates) ≡ true → list_any (same_prefix q) (flat_map gives_prefixes updates) ≡ true
path_given q updates h = any_flat (same_prefix q) gives_prefixes updates
    ∙ last_in (tells_of q) (gives_at q) updates (at (last_such (tells_of q) updates) h) where
      gives : (b : Bool) (path : Option Path) → is_some (if b then path else None) ≡ true → b ≡ true
      gives true path k = refl
      gives false path k = absurd (true≢false (sym k))

      at : (o : Option Update) → is_some (option_and_then (λ update. if gives_at q update then update.path else None) o) ≡ true
          → (elim o as (λ _. Bool) [ None ↦ false | Some u ↦ gives_at q u ]) ≡ true
      at None k = absurd (true≢false (sym k))
      at (Some u) k = gives (gives_at q u) u.path k

rule_left : (q : Ruled) (updates : List Update) → is_some (flow_left q updates) ≡ true → list_any (is_rule q) (flat_map gives_rules updates) ≡ true
rule_left q updates h =
    any_flat (is_rule q) gives_rules updates
    ∙ last_in (tells_of_rule q) (λ u. list_any (is_rule q) (gives_rules u)) updates (at (last_such (tells_of_rule q) updates) h)
  where
    gives : (o : Option Ruled) (f : Ruled → Option Given) → is_some (option_and_then f o) ≡ true → is_some o ≡ true
    gives None f k = absurd (true≢false (sym k))
    gives (Some rule) f k = refl

    at : (o : Option Update) → is_some (option_and_then (λ update. option_and_then (given_with update) (rule_given q update)) o) ≡ true
        → (elim o as (λ _. Bool) [ None ↦ false | Some u ↦ list_any (is_rule q) (gives_rules u) ]) ≡ true
    at None k = absurd (true≢false (sym k))
    at (Some u) k = last_there q (gives_rules u) ∙ gives (rule_given q u) (given_with u) k

-- Prefixes as they are listed are one by these tests exactly where they are equal.
same_one : (a b : Shown) → same_prefix a b ≡ true → a ≡ b
same_one a b h =
    let rest : ((a.1 == b.1) && (a.2 == b.2)) ≡ true = and_second (afi_of a.0 == afi_of b.0) ((a.1 == b.1) && (a.2 == b.2)) h in
    let f : a.0 ≡ b.0 = same_family a.0 b.0 (equal_of_eq (afi_of a.0) (afi_of b.0) (and_first (afi_of a.0 == afi_of b.0) ((a.1 == b.1) && (a.2 == b.2)) h)) in
    let n : a.1 ≡ b.1 = equal_of_eq a.1 b.1 (and_first (a.1 == b.1) (a.2 == b.2) rest) in
    let m : a.2 ≡ b.2 = equal_of_eq a.2 b.2 (and_second (a.1 == b.1) (a.2 == b.2) rest) in
    λ i. (f i, n i, m i)

same_itself : (a : Shown) → same_prefix a a ≡ true
same_itself a = and_both (afi_of a.0 == afi_of a.0) ((a.1 == a.1) && (a.2 == a.2)) (eq_itself (afi_of a.0))
    (and_both (a.1 == a.1) (a.2 == a.2) (eq_itself a.1) (eq_itself a.2))

turn : (a b : Shown) → same_prefix a b ≡ true → same_prefix b a ≡ true
turn a b h = subst (λ c. same_prefix c a ≡ true) (same_one a b h) (same_itself a)

prefix_laws : IsEquivalence same_prefix
prefix_laws = record {
  refl = same_itself;
  symm = λ a b. same_tests (same_prefix a b) (same_prefix b a) (turn a b) (turn b a);
  congr = λ a b c h. ap (λ z. same_prefix z c) (same_one a b h);
}

-- What a lookup finds.
found : {A B : Type 0} (f : A → B) (p : A → Bool) (xs : List A) → is_some (option_map f (find p xs)) ≡ list_any p xs
found f p [] = refl
found f p (x ∷ xs) = at (p x) (found f p xs) where
  at : (b : Bool) → is_some (option_map f (find p xs)) ≡ list_any p xs → is_some (option_map f (cond b (Some x) (find p xs))) ≡ (b || list_any p xs)
  at true ih = refl
  at false ih = ih

number_swapped : (m n : ℕ) → (m == n) ≡ (n == m)
number_swapped m n = grind (arith, nat_tests)

none_less : (b : Bool) → b ≡ true → (a : Bool) → (a && b) ≡ false → a ≡ false
none_less true h true k = absurd (true≢false k)
none_less true h false k = refl
none_less false h a k = absurd (true≢false (sym h))

module _ (peer : ℕ) (updates : List Update) (held : Held) (listed : IsListed held) (left : IsLeft peer updates held) where
  abbrev prefix_of : Route → Shown
  prefix_of r = shown r.0.prefix

  abbrev is_own : Route → Bool
  is_own r = r.0.peer == peer

  -- at a prefix something is left exactly where the peer has a route
  path_tells : (q : Shown) → IsPrefix q → is_some (path_left q updates) ≡ list_any (same_prefix q) (map prefix_of (filter is_own held.unicast))
  path_tells q is =
      sym (ap is_some (left.unicast place (eq_itself peer)))
      ∙ is_some-lookup (is_at (place_cmp place)) held.unicast
      ∙ any_map (is_at (place_cmp place)) (λ (r : Route). r.0) held.unicast
      ∙ any_on (λ r. is_at (place_cmp place) r.0) (λ r. is_own r && same_prefix q (prefix_of r)) held.unicast
      (λ r. place_same place r.0 ∙ ap (λ b. same_prefix q (prefix_of r) && b) (number_swapped peer r.0.peer)
      ∙ and_swapped (same_prefix q (prefix_of r)) (is_own r))
      ∙ sym (any_own same_prefix prefix_laws prefix_of is_own q held.unicast)
    where
      place : Place
      place = record { prefix = record { family = q.0; bits = q.1; length = q.2; short = is.short; clear = is.clear }; peer = peer }

  rule_tells : (q : Ruled) → is_some (flow_left q updates) ≡ list_any (is_rule q) (map (λ (r : FlowRoute). r.rule) (filter (λ r. r.peer == peer) held.flows))
  rule_tells q =
      sym (ap is_some (left.flows q))
      ∙ found given_of (is_key q peer) held.flows
      ∙ any_on (is_key q peer) (λ r. (r.peer == peer) && is_rule q r.rule) held.flows
      (λ r. key_same q r.rule peer r.peer ∙ ap (λ b. is_rule q r.rule && b) (number_swapped peer r.peer) ∙ and_swapped (is_rule q r.rule) (r.peer == peer))
      ∙ sym (any_own is_rule (eq_by_cmp_equiv rule_total) (λ (r : FlowRoute). r.rule) (λ r. r.peer == peer) q held.flows)

  places_apart : (r s : Route) → is_own r ≡ true → is_own s ≡ true → place_cmp r.0 s.0 ≡ Less → same_prefix (prefix_of r) (prefix_of s) ≡ false
  places_apart r s h k less =
      none_less (r.0.peer == s.0.peer) (ap (λ n. n == s.0.peer) (equal_of_eq r.0.peer peer h) ∙ number_swapped peer s.0.peer
      ∙ k) (same_prefix (prefix_of r) (prefix_of s)) (sym (place_same r.0 s.0) ∙ ap is_eq less)

  rules_apart : (r s : FlowRoute) → (r.peer == peer) ≡ true → (s.peer == peer) ≡ true → flow_key_cmp (flow_key r) (flow_key s) ≡ Less
      → is_rule r.rule s.rule ≡ false
  rules_apart r s h k less =
      none_less (r.peer == s.peer) (ap (λ n. n == s.peer) (equal_of_eq r.peer peer h) ∙ number_swapped peer s.peer
      ∙ k) (is_rule r.rule s.rule) (sym (key_same r.rule s.rule r.peer s.peer) ∙ ap is_eq less)

  each_prefix : (routes : List Route) → AllByRecursion IsPrefix (map prefix_of (filter is_own routes))
  each_prefix [] = tt
  each_prefix (r ∷ routes) = at (is_own r) (each_prefix routes) where
    at : (b : Bool) → AllByRecursion IsPrefix (map prefix_of (filter is_own routes))
        → AllByRecursion IsPrefix (map prefix_of (cond b (r ∷ filter is_own routes) (filter is_own routes)))
    at true rest = (record { short = r.0.prefix.short; clear = r.0.prefix.clear }, rest)
    at false rest = rest

  pub counted_left : AllByRecursion IsPrefix (flat_map gives_prefixes updates) → held_count peer held ≡ routes_left updates
  counted_left prefixes =
      ap₂ (λ m n. m + n)
      (counted_own same_prefix prefix_laws prefix_of is_own IsPrefix (λ q. is_some (path_left q updates)) (flat_map gives_prefixes updates) held.unicast
      (each_prefix held.unicast) prefixes path_tells (λ q. path_given q updates)
      (distinct_own same_prefix prefix_laws prefix_of is_own place_cmp (λ (r : Route). r.0) places_apart held.unicast listed.unicast))
      (counted_own is_rule (eq_by_cmp_equiv rule_total) (λ (r : FlowRoute). r.rule) (λ r. r.peer == peer) (λ (q : Ruled). Unit {0})
      (λ q. is_some (flow_left q updates)) (flat_map gives_rules updates) held.flows
      (each (λ (q : Ruled). Unit {0}) (λ q. tt) _) (each (λ (q : Ruled). Unit {0}) (λ q. tt) _) (λ q u. rule_tells q) (λ q. rule_left q updates)
      (distinct_own is_rule (eq_by_cmp_equiv rule_total) (λ (r : FlowRoute). r.rule) (λ r. r.peer == peer) flow_key_cmp flow_key rules_apart
      held.flows listed.flows))
