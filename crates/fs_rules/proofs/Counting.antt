-- How many routes a peer holds, and the counts of them.
use Rattle.fs_rules.proofs.Words.{◌≡◌, ℕ, ◌+◌, ◌-◌, refl, sym, ap, ap₂, ◌∙◌, Bool, true, false, true≢false, not, ◌&&◌, ◌||◌, ◌==◌, cond}
use Rattle.fs_rules.proofs.Words.{if◌then◌else◌, List, [], ◌∷◌, length, filter, Some, is_some, Ordering, Less, Equal, Greater, is_eq, nat_cmp, arith}
use Rattle.fs_rules.proofs.Words.{nat_tests, insert_entry, is_at, IsTotalOrder, AllByRecursion, IsStrictlySortedBy, lookup, remove_entry, keys_of}
use Rattle.fs_rules.proofs.Words.{match_ordering, ordering_then, sorted_head, sorted_tail, Config, Path, Prefix, prefix_cmp, each_weaker, each_none}
use Rattle.fs_rules.proofs.Words.{filter_all, equal_of_is_eq, is_eq_of_nats, Ruled, place_total, IsSwapOf, Route, Swap, place_cmp, put_path}
use Rattle.fs_rules.proofs.Words.{take_path, has_path, FlowRoute, Held, held_count, without_peer, key_cmp, is_key, put_route, without_route}
use Rattle.fs_rules.proofs.Words.{has_route, without_peer_unicast, without_peer_flows, count_in, AreSorted, Counts, count_of, flow_total}
use Rattle.fs_rules.proofs.Chosen.{held_of, with_flows}
use Rattle.fs_base.proofs.NumberTests.{eq_itself}

above : {K : Type 0} {cmp : K → K → Ordering} (total : IsTotalOrder cmp) (k p : K) (qs : List K) → cmp k p ≡ Less
    → AllByRecursion (λ q. cmp p q ≡ Less) qs → AllByRecursion (λ q. cmp k q ≡ Less) qs
above {K} {cmp} total k p qs h all = each_weaker (λ q. cmp p q ≡ Less) (λ q. cmp k q ≡ Less) (λ q less. IsTotalOrder.trans total k p q h less) qs all

-- Of entries.
module _ {K X : Type 0} (test : K → Bool) where
  abbrev size : List (K × X) → ℕ
  size es = length (filter (λ e. test e.0) es)

  size_more : (e : K × X) (es : List (K × X)) → size (e ∷ es) ≡ (if test e.0 then 1 else 0) + size es
  size_more e es = at (test e.0) where
    at : (b : Bool) → length (cond b (e ∷ filter (λ x. test x.0) es) (filter (λ x. test x.0) es)) ≡ (if b then 1 else 0) + size es
    at true = omega arith
    at false = omega arith

  none_above : (cmp : K → K → Ordering) (k : K) (es : List (K × X)) → AllByRecursion (λ q. cmp k q ≡ Less) (keys_of es)
      → is_some (lookup (is_at (cmp k)) es) ≡ false
  none_above cmp k [] h = refl
  none_above cmp k (e ∷ es) h = ap (λ o. is_some (cond (is_eq o) (Some e.1) (lookup (is_at (cmp k)) es))) h.0 ∙ none_above cmp k es h.1

  -- one entry more, where its key is a new one
  pub size_insert : {cmp : K → K → Ordering} (total : IsTotalOrder cmp) (k : K) (v : X) (es : List (K × X)) → IsStrictlySortedBy cmp (keys_of es)
      → size (insert_entry cmp es k v) ≡ size es + (if not (is_some (lookup (is_at (cmp k)) es)) && test k then 1 else 0)
  size_insert total k v [] sorted = size_more (k, v) [] ∙ omega arith
  size_insert {cmp} total k v (e ∷ es) sorted = at (cmp k e.0) refl (size_insert total k v es (sorted_tail cmp e.0 (keys_of es) sorted)) where
    at : (o : Ordering) → cmp k e.0 ≡ o → size (insert_entry cmp es k v) ≡ size es + (if not (is_some (lookup (is_at (cmp k)) es)) && test k then 1 else 0)
        → size (match_ordering o ((k, v) ∷ e ∷ es) ((e.0, v) ∷ es) (e ∷ insert_entry cmp es k v))
        ≡ size (e ∷ es) + (if not (is_some (cond (is_eq o) (Some e.1) (lookup (is_at (cmp k)) es))) && test k then 1 else 0)
    at Less h ih =
        let none : is_some (lookup (is_at (cmp k)) es) ≡ false =
        none_above cmp k es (above total k e.0 (keys_of es) h (sorted_head cmp e.0 (keys_of es) sorted)) in
        size_more (k, v) (e ∷ es) ∙ turned (test k) (size (e ∷ es)) ∙ ap (λ b. size (e ∷ es) + (if not b && test k then 1 else 0)) (sym none) where
          turned : (b : Bool) (n : ℕ) → (if b then 1 else 0) + n ≡ n + (if not false && b then 1 else 0)
          turned true n = omega arith
          turned false n = omega arith
    at Equal h ih = size_more (e.0, v) es ∙ sym (size_more e es) ∙ omega arith
    at Greater h ih =
        let one : size (e ∷ insert_entry cmp es k v) ≡ (if test e.0 then 1 else 0) + size (insert_entry cmp es k v) = size_more e (insert_entry cmp es k v) in
        let two : size (e ∷ es) ≡ (if test e.0 then 1 else 0) + size es = size_more e es in
        omega (arith, one, two, ih)

  -- one entry less, where one was found
  pub size_remove : (out : K → Bool) (b : Bool) → ((q : K) → out q ≡ true → test q ≡ b) → (es : List (K × X))
      → size (remove_entry out es) + (if is_some (lookup out es) && b then 1 else 0) ≡ size es
  size_remove out b same [] = omega arith
  size_remove out b same (e ∷ es) = at (out e.0) refl (size_remove out b same es) where
    at : (c : Bool) → out e.0 ≡ c → size (remove_entry out es) + (if is_some (lookup out es) && b then 1 else 0) ≡ size es
        → size (cond c es (e ∷ remove_entry out es)) + (if is_some (cond c (Some e.1) (lookup out es)) && b then 1 else 0) ≡ size (e ∷ es)
    at true h ih = turned b ∙ ap (λ c. (if c then 1 else 0) + size es) (sym (same e.0 h)) ∙ sym (size_more e es) where
      turned : (c : Bool) → size es + (if true && c then 1 else 0) ≡ (if c then 1 else 0) + size es
      turned true = omega arith
      turned false = omega arith
    at false h ih =
        let one : size (e ∷ remove_entry out es) ≡ (if test e.0 then 1 else 0) + size (remove_entry out es) = size_more e (remove_entry out es) in
        let two : size (e ∷ es) ≡ (if test e.0 then 1 else 0) + size es = size_more e es in
        omega (arith, one, two, ih)

-- Of flow routes.
abbrev of_peer : ℕ → FlowRoute → Bool
of_peer other r = r.peer == other

abbrev many : ℕ → List FlowRoute → ℕ
many other flows = length (filter (of_peer other) flows)

many_more : (other : ℕ) (r : FlowRoute) (rs : List FlowRoute) → many other (r ∷ rs) ≡ (if r.peer == other then 1 else 0) + many other rs
many_more other r rs = at (r.peer == other) where
  at : (b : Bool) → length (cond b (r ∷ filter (of_peer other) rs) (filter (of_peer other) rs)) ≡ (if b then 1 else 0) + many other rs
  at true = omega arith
  at false = omega arith

peers_equal : (o : Ordering) (m n : ℕ) → ordering_then o (nat_cmp m n) ≡ Equal → m ≡ n
peers_equal Less m n h = absurd cc
peers_equal Equal m n h = grind (arith, nat_tests, ap is_eq h, is_eq_of_nats m n)
peers_equal Greater m n h = absurd cc

none_later : (rule : Ruled) (peer : ℕ) (rs : List FlowRoute) → AllByRecursion (λ s. key_cmp rule peer s ≡ Less) rs → has_route rule peer rs ≡ false
none_later rule peer rs h = each_none (is_key rule peer) rs
    (each_weaker (λ s. key_cmp rule peer s ≡ Less) (λ s. is_key rule peer s ≡ false) (λ s less. ap is_eq less) rs h)

pub many_put : (other : ℕ) (r : FlowRoute) (rs : List FlowRoute) → AreSorted rs
    → many other (put_route r rs) ≡ many other rs + (if not (has_route r.rule r.peer rs) && (r.peer == other) then 1 else 0)
many_put other r [] sorted = many_more other r [] ∙ omega arith
many_put other r (x ∷ xs) sorted = at (key_cmp r.rule r.peer x) refl (many_put other r xs sorted.1) where
  at : (o : Ordering) → key_cmp r.rule r.peer x ≡ o
      → many other (put_route r xs) ≡ many other xs + (if not (has_route r.rule r.peer xs) && (r.peer == other) then 1 else 0)
      → many other (match_ordering o (r ∷ x ∷ xs) (r ∷ xs) (x ∷ put_route r xs))
      ≡ many other (x ∷ xs) + (if not (is_eq o || has_route r.rule r.peer xs) && (r.peer == other) then 1 else 0)
  at Less h ih =
      let none : has_route r.rule r.peer xs ≡ false =
      none_later r.rule r.peer xs (each_weaker (λ s. key_cmp x.rule x.peer s ≡ Less) (λ s. key_cmp r.rule r.peer s ≡ Less)
      (λ s less. IsTotalOrder.trans flow_total r x s h less) xs sorted.0) in
      many_more other r (x ∷ xs) ∙ turned (r.peer == other) (many other (x ∷ xs))
      ∙ ap (λ b. many other (x ∷ xs) + (if not (false || b) && (r.peer == other) then 1 else 0)) (sym none) where
        turned : (b : Bool) (n : ℕ) → (if b then 1 else 0) + n ≡ n + (if not (false || false) && b then 1 else 0)
        turned true n = omega arith
        turned false n = omega arith
  at Equal h ih =
      many_more other r xs ∙ ap (λ n. (if n == other then 1 else 0) + many other xs) (peers_equal _ r.peer x.peer h) ∙ sym (many_more other x xs) ∙ omega arith
  at Greater h ih =
      let one : many other (x ∷ put_route r xs) ≡ (if x.peer == other then 1 else 0) + many other (put_route r xs) = many_more other x (put_route r xs) in
      let two : many other (x ∷ xs) ≡ (if x.peer == other then 1 else 0) + many other xs = many_more other x xs in
      omega (arith, one, two, ih)

pub many_without : (other : ℕ) (rule : Ruled) (peer : ℕ) (rs : List FlowRoute) → AreSorted rs
    → many other (without_route rule peer rs) + (if has_route rule peer rs && (peer == other) then 1 else 0) ≡ many other rs
many_without other rule peer [] sorted = omega arith
many_without other rule peer (x ∷ xs) sorted = at (key_cmp rule peer x) refl (many_without other rule peer xs sorted.1) where
  at : (o : Ordering) → key_cmp rule peer x ≡ o
      → many other (without_route rule peer xs) + (if has_route rule peer xs && (peer == other) then 1 else 0) ≡ many other xs
      → many other (cond (not (is_eq o)) (x ∷ without_route rule peer xs) (without_route rule peer xs))
      + (if (is_eq o || has_route rule peer xs) && (peer == other) then 1 else 0) ≡ many other (x ∷ xs)
  at Equal h ih =
      let none : without_route rule peer xs ≡ xs =
      filter_all (λ r. not (is_key rule peer r)) xs
      (each_weaker (λ s. key_cmp x.rule x.peer s ≡ Less) (λ s. not (is_key rule peer s) ≡ true)
      (λ s less. ap (λ o. not (is_eq o)) (IsTotalOrder.congr flow_total key x s h ∙ less)) xs sorted.0) in
      ap (λ rs. many other rs + (if peer == other then 1 else 0)) none ∙ turned (peer == other)
      ∙ ap (λ n. (if n == other then 1 else 0) + many other xs) (peers_equal _ peer x.peer h) ∙ sym (many_more other x xs) where
        key : FlowRoute
        key = record { rule = rule; peer = peer; path = x.path; actions = x.actions }

        turned : (b : Bool) → many other xs + (if b then 1 else 0) ≡ (if b then 1 else 0) + many other xs
        turned true = omega arith
        turned false = omega arith
  at Less h ih =
      let one : many other (x ∷ without_route rule peer xs) ≡ (if x.peer == other then 1 else 0) + many other (without_route rule peer xs) =
      many_more other x (without_route rule peer xs) in
      let two : many other (x ∷ xs) ≡ (if x.peer == other then 1 else 0) + many other xs = many_more other x xs in
      omega (arith, one, two, ih)
  at Greater h ih =
      let one : many other (x ∷ without_route rule peer xs) ≡ (if x.peer == other then 1 else 0) + many other (without_route rule peer xs) =
      many_more other x (without_route rule peer xs) in
      let two : many other (x ∷ xs) ≡ (if x.peer == other then 1 else 0) + many other xs = many_more other x xs in
      omega (arith, one, two, ih)

-- Without a peer.
module _ {X : Type 0} (number : X → ℕ) where
  abbrev own : ℕ → List X → List X
  own other xs = filter (λ x. number x == other) xs

  abbrev without : ℕ → List X → List X
  without peer xs = filter (λ x. not (number x == peer)) xs

  own_more : (other : ℕ) (x : X) (xs : List X) → length (own other (x ∷ xs)) ≡ (if number x == other then 1 else 0) + length (own other xs)
  own_more other x xs = at (number x == other) where
    at : (b : Bool) → length (cond b (x ∷ own other xs) (own other xs)) ≡ (if b then 1 else 0) + length (own other xs)
    at true = omega arith
    at false = omega arith

  own_gone : (peer other : ℕ) (xs : List X) → length (own other (without peer xs)) ≡ (if peer == other then 0 else length (own other xs))
  own_gone peer other [] = at (peer == other) where
    at : (b : Bool) → ◌≡◌ {A = ℕ} 0 (if b then 0 else 0)
    at true = refl
    at false = refl
  own_gone peer other (x ∷ xs) = by (number x == peer) refl (own_gone peer other xs) (own_more other x xs) where
    gone : (b c : Bool) → (b ≡ true → c ≡ true) → (m n : ℕ) → m ≡ (if b then 1 else 0) + n → (if c then 0 else n) ≡ (if c then 0 else m)
    gone b true f m n e = refl
    gone true false f m n e = absurd (true≢false (sym (f refl)))
    gone false false f m n e = omega (arith, e)

    stays : (b c : Bool) → (b ≡ true → c ≡ false) → (m n : ℕ) → m ≡ (if b then 1 else 0) + n
        → (if b then 1 else 0) + (if c then 0 else n) ≡ (if c then 0 else m)
    stays true true f m n e = absurd (true≢false (f refl))
    stays false true f m n e = omega arith
    stays b false f m n e = sym e

    by : (a : Bool) → (number x == peer) ≡ a → length (own other (without peer xs)) ≡ (if peer == other then 0 else length (own other xs))
        → length (own other (x ∷ xs)) ≡ (if number x == other then 1 else 0) + length (own other xs)
        → length (own other (cond (not a) (x ∷ without peer xs) (without peer xs))) ≡ (if peer == other then 0 else length (own other (x ∷ xs)))
    by true h ih e = ih ∙ gone (number x == other) (peer == other) (λ k. grind (arith, nat_tests, h, k)) (length (own other (x ∷ xs))) (length (own other xs)) e
    by false h ih e =
        own_more other x (without peer xs)
        ∙ ap (λ n. (if number x == other then 1 else 0) + n) ih
        ∙ stays (number x == other) (peer == other) (λ k. grind (arith, nat_tests, h, k)) (length (own other (x ∷ xs))) (length (own other xs)) e

  -- a peer of which nothing is listed
  none_own : (peer : ℕ) (xs : List X) → length (own peer xs) ≡ 0 → without peer xs ≡ xs
  none_own peer [] h = refl
  none_own peer (x ∷ xs) h = at (number x == peer) h (none_own peer xs) where
    at : (b : Bool) → length (cond b (x ∷ own peer xs) (own peer xs)) ≡ 0 → (length (own peer xs) ≡ 0 → without peer xs ≡ xs)
        → cond (not b) (x ∷ without peer xs) (without peer xs) ≡ x ∷ xs
    at true g ih = absurd (omega (arith, g))
    at false g ih = ap (λ ys. x ∷ ys) (ih g)

-- Counts beside the routes.
abbrev Counted : List Route → List FlowRoute → Counts → Type 0
Counted unicast flows counts = (other : ℕ) → count_of other counts ≡ count_in other unicast flows

abbrev Raised : ℕ → Bool → Counts → Counts → Type 0
Raised peer more old new = (other : ℕ) → count_of other new ≡ count_of other old + (if more && (peer == other) then 1 else 0)

abbrev Lowered : ℕ → Bool → Counts → Counts → Type 0
Lowered peer less old new = (other : ℕ) → count_of other new ≡ count_of other old - (if less && (peer == other) then 1 else 0)

pub counted_as : (unicast : List Route) (flows : List FlowRoute) (old new : Counts) → ((other : ℕ) → count_of other new ≡ count_of other old)
    → Counted unicast flows old → Counted unicast flows new
counted_as unicast flows old new same c = λ other. same other ∙ c other

pub counted_put_flow : (unicast : List Route) (r : FlowRoute) (flows new : List FlowRoute) (before after : Counts) (more : Bool) → AreSorted flows
    → Counted unicast flows before
    → Raised r.peer more before after → more ≡ not (has_route r.rule r.peer flows) → new ≡ put_route r flows → Counted unicast new after
counted_put_flow unicast r flows new before after more sorted c raised fresh e = λ other.
    let one : count_of other after ≡ count_of other before + (if not (has_route r.rule r.peer flows) && (r.peer == other) then 1 else 0) =
    raised other ∙ ap (λ b. count_of other before + (if b && (r.peer == other) then 1 else 0)) fresh in
    let two : many other new ≡ many other flows + (if not (has_route r.rule r.peer flows) && (r.peer == other) then 1 else 0) = ap (many other) e
    ∙ many_put other r flows sorted in
    let three : count_of other before ≡ count_in other unicast flows = c other in
    omega (arith, one, two, three)

pub counted_without_flow : (unicast : List Route) (rule : Ruled) (peer : ℕ) (flows new : List FlowRoute) (before after : Counts) (less : Bool)
    → AreSorted flows → Counted unicast flows before
    → Lowered peer less before after → less ≡ has_route rule peer flows → new ≡ without_route rule peer flows → Counted unicast new after
counted_without_flow unicast rule peer flows new before after less sorted c lowered held e = λ other.
    let one : count_of other after ≡ count_of other before - (if has_route rule peer flows && (peer == other) then 1 else 0) =
    lowered other ∙ ap (λ b. count_of other before - (if b && (peer == other) then 1 else 0)) held in
    let two : many other new + (if has_route rule peer flows && (peer == other) then 1 else 0) ≡ many other flows =
    ap (λ rs. many other rs + (if has_route rule peer flows && (peer == other) then 1 else 0)) e ∙ many_without other rule peer flows sorted in
    let three : count_of other before ≡ count_in other unicast flows = c other in
    omega (arith, one, two, three)

-- a route is a new one where no path was replaced
pub fresh_swap : (peer : ℕ) (prefix : Prefix) (swap : Swap) (unicast unicast' : List Route) (b : Bool) → IsSwapOf peer prefix swap unicast unicast'
    → is_some swap.old ≡ not b → b ≡ not (has_path peer prefix unicast)
fresh_swap peer prefix swap unicast unicast' b s h =
    at b (sym h ∙ ap is_some (sym s.swapped.was) ∙ ap₂ (λ n q. has_path n q unicast) s.of_peer s.at_prefix) where
      at : (b : Bool) → not b ≡ has_path peer prefix unicast → b ≡ not (has_path peer prefix unicast)
      at true e = ap not e
      at false e = ap not e

pub counted_put : (peer : ℕ) (prefix : Prefix) (path : Path) (unicast unicast' : List Route) (flows new : List FlowRoute) (before after : Counts) (more : Bool)
    → IsStrictlySortedBy place_cmp (keys_of unicast) → Counted unicast flows before → Raised peer more before after → more ≡ not (has_path peer prefix unicast)
    → unicast' ≡ put_path peer prefix path unicast → new ≡ flows → Counted unicast' new after
counted_put peer prefix path unicast unicast' flows new before after more sorted c raised fresh e f = λ other.
    let one : count_of other after ≡ count_of other before + (if not (has_path peer prefix unicast) && (peer == other) then 1 else 0) =
    raised other ∙ ap (λ b. count_of other before + (if b && (peer == other) then 1 else 0)) fresh in
    let two : size (λ q. q.peer == other) unicast' ≡ size (λ q. q.peer == other) unicast + (if not (has_path peer prefix unicast) && (peer == other)
    then 1 else 0) =
    ap (size (λ q. q.peer == other)) e ∙ size_insert (λ q. q.peer == other) place_total (record { prefix = prefix; peer = peer }) path unicast sorted in
    let three : count_of other before ≡ count_in other unicast flows = c other in
    let four : many other new ≡ many other flows = ap (many other) f in
    omega (arith, one, two, three, four)

pub counted_taken : (peer : ℕ) (prefix : Prefix) (unicast unicast' : List Route) (flows new : List FlowRoute) (before after : Counts)
    → Counted unicast flows before → Lowered peer true before after → has_path peer prefix unicast ≡ true
    → unicast' ≡ take_path peer prefix unicast → new ≡ flows → Counted unicast' new after
counted_taken peer prefix unicast unicast' flows new before after c lowered held e f = λ other.
    let one : count_of other after ≡ count_of other before - (if true && (peer == other) then 1 else 0) = lowered other in
    let two : size (λ q. q.peer == other) unicast' + (if true && (peer == other) then 1 else 0) ≡ size (λ q. q.peer == other) unicast =
    ap (λ es. size (λ q. q.peer == other) es + (if true && (peer == other) then 1 else 0)) e
    ∙ ap (λ b. size (λ q. q.peer == other) (take_path peer prefix unicast) + (if b && (peer == other) then 1 else 0)) (sym held)
    ∙ size_remove (λ q. q.peer == other) (is_at (place_cmp (record { prefix = prefix; peer = peer }))) (peer == other)
    (λ q h. ap (λ n. n == other) (sym (peers_equal (prefix_cmp prefix q.prefix) peer q.peer (equal_of_is_eq _ h)))) unicast in
    let three : count_of other before ≡ count_in other unicast flows = c other in
    let four : many other new ≡ many other flows = ap (many other) f in
    omega (arith, one, two, three, four)

pub counted_lost : (peer : ℕ) (unicast : List Route) (flows new : List FlowRoute) (before after : Counts)
    → without_peer_unicast peer unicast ≡ unicast → Counted unicast flows before
    → ((other : ℕ) → count_of other after ≡ (if peer == other then 0 else count_of other before)) → new ≡ without_peer_flows peer flows
    → Counted unicast new after
counted_lost peer unicast flows new before after none c cleared e = λ other.
    by other (peer == other)
    (cleared other)
    (ap (λ es. size (λ q. q.peer == other) es) (sym none) ∙ own_gone (λ (r : Route). r.0.peer) peer other unicast)
    (ap (many other) e ∙ own_gone (λ (r : FlowRoute). r.peer) peer other flows)
    (c other)
  where
    by : (other : ℕ) (b : Bool) → count_of other after ≡ (if b then 0 else count_of other before)
        → size (λ q. q.peer == other) unicast ≡ (if b then 0 else size (λ q. q.peer == other) unicast)
        → many other new ≡ (if b then 0 else many other flows) → count_of other before ≡ count_in other unicast flows
        → count_of other after ≡ count_in other unicast new
    by other true k u f g = omega (arith, k, u, f)
    by other false k u f g = omega (arith, k, f, g)

-- what has gone is gone
none_left : {X : Type 0} (of : X → ℕ) (peer : ℕ) (xs : List X) → length (filter (λ x. of x == peer) (filter (λ x. not (of x == peer)) xs)) ≡ 0
none_left of peer xs = own_gone of peer peer xs ∙ ap (λ (b : Bool). if b then 0 else length (filter (λ x. of x == peer) xs)) (eq_itself peer)

pub gone_twice : (peer : ℕ) (unicast : List Route) → without_peer_unicast peer (without_peer_unicast peer unicast) ≡ without_peer_unicast peer unicast
gone_twice peer unicast = none_own (λ (r : Route). r.0.peer) peer (without_peer_unicast peer unicast) (none_left (λ (r : Route). r.0.peer) peer unicast)

-- who loses nothing holds nothing
pub holds_none : (peer : ℕ) (unicast : List Route) (flows : List FlowRoute) → without_peer_unicast peer unicast ≡ unicast
    → without_peer_flows peer flows ≡ flows → count_in peer unicast flows ≡ 0
holds_none peer unicast flows e f = ap₂ (λ m n. m + n)
    (ap (λ es. length (filter (λ (r : Route). r.0.peer == peer) es)) (sym e) ∙ none_left (λ (r : Route). r.0.peer) peer unicast)
    (ap (λ rs. length (filter (λ (r : FlowRoute). r.peer == peer) rs)) (sym f) ∙ none_left (λ (r : FlowRoute). r.peer) peer flows)

-- a peer whose count is 0 holds nothing
pub idle_unicast : (peer : ℕ) (unicast : List Route) (flows : List FlowRoute) → count_in peer unicast flows ≡ 0 → without_peer_unicast peer unicast ≡ unicast
idle_unicast peer unicast flows h = none_own (λ (r : Route). r.0.peer) peer unicast (omega (arith, h))

pub idle_flows : (peer : ℕ) (unicast : List Route) (flows : List FlowRoute) → count_in peer unicast flows ≡ 0 → without_peer_flows peer flows ≡ flows
idle_flows peer unicast flows h = none_own (λ (r : FlowRoute). r.peer) peer flows (omega (arith, h))

-- so it loses nothing
pub with_same_flows : (peer : ℕ) (config : Config) (unicast : List Route) (flows : List FlowRoute) (held : Held) → held_of config unicast flows ≡ held
    → count_in peer unicast flows ≡ 0
    → held ≡ record held { flows = without_peer_flows peer held.flows }
with_same_flows peer config unicast flows held view none =
    sym view ∙ sym (ap (held_of config unicast) (idle_flows peer unicast flows none)) ∙ ap (with_flows (without_peer_flows peer)) view

pub with_same : (peer : ℕ) (held : Held) → held_count peer held ≡ 0 → held ≡ without_peer peer held
with_same peer held none =
    λ i. record {
      config = held.config;
      unicast = sym (idle_unicast peer held.unicast held.flows none) i;
      flows =
          sym (idle_flows peer held.unicast held.flows none) i;
    }
