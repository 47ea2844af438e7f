-- A swap that leaves what the flow routes to a destination are judged by leaves their validity.
use Rattle.fs_validate.proofs.Words.{ℕ, ◌≡◌, ◌≤◌, refl, sym, ap, ap₂, subst, ◌∙◌, Bool, true, false, true≢false, not, ◌&&◌, ◌||◌, ◌==◌, cond, List}
use Rattle.fs_validate.proofs.Words.{[], ◌∷◌, filter, map, Option, Some, None, nat_le, arith, nat_tests, is_at, list_any, list_all, lookup}
use Rattle.fs_validate.proofs.Words.{remove_entry, option_eq, covers, Config, Address, V4, V6, Path, Prefix, and_false, and_first, and_parts}
use Rattle.fs_validate.proofs.Words.{and_second, or_implied, or_second, all_each, any_each, each_weaker, filter_none, filter-remove_other, none_each}
use Rattle.fs_validate.proofs.Words.{covered_back, equal_of_eq, le_true, true_from_ne_false, Route, IsSwap, path_at, place_cmp, take_path, first_as}
use Rattle.fs_validate.proofs.Words.{neighbour_as, best_of, best_at, best_match_of, candidate, is_longest, is_other, is_same_prefix}
use Rattle.fs_validate.proofs.Words.{is_strictly_under, others_under, Place, Swap, strictly, same_is, exact_place, best_at_longest, FlowRoute}
use Rattle.fs_validate.proofs.Words.{Validity, Valid, MoreSpecific, LeftAs, Originator, is_local, originator_of, same_address, same_originator}
use Rattle.fs_validate.proofs.Words.{has_leftmost, has_originator, neighbour_of_best, same_as, validity_to, Stays, are_both_against, is_against}
use Rattle.fs_validate.proofs.Words.{is_alike, is_related}
use Rattle.fs_validate.proofs.Local.{any_within, best_match_among, best_match_covers, no_longer, others_among, validity_local}

one_address : (a b : Address) → same_address a b ≡ true → a ≡ b
one_address (V4 a) (V4 b) h = ap V4 (equal_of_eq a b h)
one_address (V4 a) (V6 b) h = absurd (true≢false (sym h))
one_address (V6 a) (V4 b) h = absurd (true≢false (sym h))
one_address (V6 a) (V6 b) h = ap V6 (equal_of_eq a b h)

one_originator : (a b : Option Address) → same_originator a b ≡ true → a ≡ b
one_originator None b h = absurd (true≢false (sym h))
one_originator (Some a) None h = absurd (true≢false (sym h))
one_originator (Some a) (Some b) h = ap Some (one_address a b h)

-- what a flow route is judged by of the best match, and the verdict on it
abbrev read : Config → FlowRoute → Option (ℕ × Path) → Bool × (Bool × Option ℕ)
read config route best = (has_originator config route best, (has_leftmost route best, neighbour_of_best config best))

abbrev verdict : Bool × (Bool × Option ℕ) → (Option ℕ → Bool) → Validity
verdict r others = cond r.0 (cond (others r.1.1) MoreSpecific (cond r.1.0 Valid LeftAs)) Originator

-- it is the same of best matches that are alike
alike_read : (config : Config) (route : FlowRoute) (a b : Option (ℕ × Path)) → is_alike config a b ≡ true → read config route a ≡ read config route b
alike_read config route None b h = absurd (true≢false (sym h))
alike_read config route (Some a) None h = absurd (true≢false (sym h))
alike_read config route (Some a) (Some b) h = at (originator_of config a) (originator_of config b) (first_as a.1.segments) (first_as b.1.segments)
    (neighbour_as config.local_as a.1.segments) (neighbour_as config.local_as b.1.segments) h where
      reading : Option Address → Option ℕ → ℕ → Bool × (Bool × Option ℕ)
      reading originator first asn = (
        (config.empty_path_valid && is_local route.path.segments) || same_originator (originator_of config (route.peer, route.path)) originator,
        (not route.path.external || same_as (first_as route.path.segments) first, Some asn),
      )

      at : (o o' : Option Address) (f f' : Option ℕ) (n n' : ℕ) → (same_originator o o' && (option_eq (λ m n. m == n) f f' && (n == n'))) ≡ true
          → reading o f n ≡ reading o' f' n'
      at o o' f f' n n' k = let p : (same_originator o o' ≡ true) × ((option_eq (λ m n. m == n) f f' && (n == n')) ≡ true) =
          and_parts (same_originator o o') (option_eq (λ m n. m == n) f f' && (n == n')) k in
          let q : (option_eq (λ m n. m == n) f f' ≡ true) × ((n == n') ≡ true) = and_parts (option_eq (λ m n. m == n) f f') (n == n') p.1 in
          λ i. reading (one_originator o o' p.0 i) (same_is f f' q.0 i) (equal_of_eq n n' q.1 i)

not_alike : (config : Config) (a : Option (ℕ × Path)) → is_alike config a None ≡ false
not_alike config None = refl
not_alike config (Some a) = refl

-- whether an entry passes: the one that a test of keys finds, or another
any_beside : {K X : Type 0} (test : K × X → Bool) (found : Option X → Bool) (out : K → Bool) → false ≡ found None
    → ((k : K) (x : X) → out k ≡ true → test (k, x) ≡ found (Some x))
    → (es : List (K × X)) → list_any test es ≡ (found (lookup out es) || list_any test (remove_entry out es))
any_beside test found out none some [] = ap (λ b. b || false) none
any_beside {K} {X} test found out none some (e ∷ es) = at (out e.0) refl (any_beside test found out none some es) where
  over : (a b c : Bool) → (a || (b || c)) ≡ (b || (a || c))
  over true true c = refl
  over true false c = refl
  over false b c = refl

  at : (b : Bool) → out e.0 ≡ b → list_any test es ≡ (found (lookup out es) || list_any test (remove_entry out es))
      → (test e || list_any test es) ≡ (found (cond b (Some e.1) (lookup out es)) || list_any test (cond b es (e ∷ remove_entry out es)))
  at true k ih = ap (λ b. b || list_any test es) (some e.0 e.1 k)
  at false k ih = ap (λ b. test e || b) ih ∙ over (test e) (found (lookup out es)) (list_any test (remove_entry out es))

both_or_neither : (a b : Bool) → cond a b (not b) ≡ true → a ≡ b
both_or_neither true b h = sym h
both_or_neither false true h = absurd (true≢false (sym h))
both_or_neither false false h = refl

beyond : (a b c : ℕ) → not (nat_le b a) ≡ true → nat_le b c ≡ true → not (nat_le c a) ≡ true
beyond a b c h k = grind (arith, nat_tests)

shorter : (a b c : ℕ) → not (nat_le b a) ≡ true → not (nat_le c a) ≡ false → nat_le c b ≡ true
shorter a b c h k = grind (arith, nat_tests)

not_beyond : (b : Bool) (m n : ℕ) → (b && not (nat_le m n)) ≡ false → b ≡ true → m ≤ n
not_beyond true m n h k = grind (arith, nat_tests)
not_beyond false m n h k = absurd (true≢false (sym k))

module _ (p d : Prefix) where
  -- longer than p
  abbrev is_beyond : Prefix → Bool
  is_beyond q = not (nat_le q.length p.length)

  -- and a cover of d
  abbrev is_over : Prefix → Bool
  is_over q = covers q d && is_beyond q

  abbrev any_over : List Route → Bool
  any_over held = list_any (λ r. is_over r.0.prefix) held

  -- where there is such a one, the best match is that of the longer ones
  best_beyond : (held : List Route) → any_over held ≡ true → best_match_of (filter (λ r. is_beyond r.0.prefix) held) d ≡ best_match_of held d
  best_beyond held any = best_match_among held d is_beyond passes
      (λ r s e f. or_second (not (covers s.0.prefix d)) (nat_le s.0.prefix.length r.0.prefix.length)
      (shorter p.length r.0.prefix.length s.0.prefix.length e f)) where
        passes : (r : Route) → is_longest held d r ≡ true → is_beyond r.0.prefix ≡ true
        passes r h = any_each (λ s. is_over s.0.prefix) (λ s. no_longer d r s ≡ true) (is_beyond r.0.prefix ≡ true) held any
            (all_each (no_longer d r) held (and_second (covers r.0.prefix d) (list_all (no_longer d r) held) h))
            (λ s yes no. beyond p.length s.0.prefix.length r.0.prefix.length (and_second (covers s.0.prefix d) (is_beyond s.0.prefix) yes)
            (or_implied (covers s.0.prefix d) (nat_le s.0.prefix.length r.0.prefix.length) no (and_first (covers s.0.prefix d) (is_beyond s.0.prefix) yes)))

  -- else it is the best at p, if p covers d and has a route
  best_here : (held : List Route) → any_over held ≡ false → covers p d ≡ true → (best_at held p ≡ None → ⊥) → best_at held p ≡ best_match_of held d
  best_here held none over some = best_at_longest held d p (record {
    there = true_from_ne_false (list_any (λ r. is_same_prefix p r.0.prefix) held) (λ e. some (ap (λ rs. best_of (map candidate rs))
        (filter_none (λ r. is_same_prefix p r.0.prefix) held (none_each (λ r. is_same_prefix p r.0.prefix) held e))));
    over = over;
    longest = each_weaker (λ r. is_over r.0.prefix ≡ false) (λ r. covers r.0.prefix d ≡ true → r.0.prefix.length ≤ p.length)
        (λ r e. not_beyond (covers r.0.prefix d) r.0.prefix.length p.length e) held (none_each (λ r. is_over r.0.prefix) held none);
  })

module _ (swap : Swap) (earlier now : List Route) (h : IsSwap swap earlier now) where
  abbrev p : Prefix
  p = swap.prefix

  abbrev place : Place
  place = record { prefix = p; peer = swap.peer }

  -- at other prefixes than the swap's the routes are the same
  same_beside : (test : Prefix → Bool) → test p ≡ false → filter (λ r. test r.0.prefix) earlier ≡ filter (λ r. test r.0.prefix) now
  same_beside test e = sym (beside earlier) ∙ ap (filter (λ r. test r.0.prefix)) h.beside ∙ beside now where
    beside : (held : List Route) → filter (λ r. test r.0.prefix) (take_path swap.peer p held) ≡ filter (λ r. test r.0.prefix) held
    beside held = filter-remove_other (λ q. test q.prefix) (is_at (place_cmp place)) (λ q k. subst (λ z. test z.prefix ≡ false) (exact_place place q k) e) held

  -- and so is what reads no other ones
  same_by : {X : Type 0} (f : List Route → X) (test : Prefix → Bool) → test p ≡ false
      → ((held : List Route) → f (filter (λ r. test r.0.prefix) held) ≡ f held) → f earlier ≡ f now
  same_by f test e k = sym (k earlier) ∙ ap f (same_beside test e) ∙ k now

  module _ (config : Config) (d : Prefix) (route : FlowRoute) where
    abbrev asn : Option ℕ
    asn = neighbour_of_best config (best_match_of now d)

    same_validity : read config route (best_match_of earlier d) ≡ read config route (best_match_of now d)
        → others_under earlier d config.local_as asn ≡ others_under now d config.local_as asn
        → validity_to earlier config route (Some d) ≡ validity_to now config route (Some d)
    same_validity e others = ap (λ r. verdict r (others_under earlier d config.local_as)) e
        ∙ ap (λ b. verdict (read config route (best_match_of now d)) (λ n. b)) others

    -- where the swap's prefix covers d
    module _ (over : covers p d ≡ true) (alike : is_alike config (best_at earlier p) (best_at now p) ≡ true) where
      not_itself : is_beyond p d p ≡ false
      not_itself = ap not (le_true p.length p.length (omega arith))

      same_any : any_over p d earlier ≡ any_over p d now
      same_any = same_by (any_over p d) (is_over p d) (and_false (covers p d) (is_beyond p d p) (λ _. not_itself))
          (λ held. any_within (λ r. is_over p d r.0.prefix) (λ r. is_over p d r.0.prefix) (λ r e. e) held)

      -- the best match is a longer one, and the same, or the best at the swap's prefix
      same_read : (b : Bool) → any_over p d now ≡ b → read config route (best_match_of earlier d) ≡ read config route (best_match_of now d)
      same_read true e = ap (read config route) (sym (best_beyond p d earlier (same_any ∙ e))
          ∙ ap (λ held. best_match_of held d) (same_beside (is_beyond p d) not_itself) ∙ best_beyond p d now e)
      same_read false e = alike_read config route (best_match_of earlier d) (best_match_of now d) (sym (ap₂ (is_alike config)
          (best_here p d earlier (same_any ∙ e) over (λ k. true≢false (sym alike ∙ ap (λ a. is_alike config a (best_at now p)) k)))
          (best_here p d now e over (λ k. true≢false (sym alike ∙ ap (is_alike config (best_at earlier p)) k ∙ not_alike config (best_at earlier p))))) ∙ alike)

      stays_over : validity_to earlier config route (Some d) ≡ validity_to now config route (Some d)
      stays_over = same_validity (same_read (any_over p d now) refl) (same_by (λ held. others_under held d config.local_as asn) (is_strictly_under d)
          (and_false (covers d p) (not (is_same_prefix d p)) (λ under. ap not (covered_back d p under over)))
          (λ held. others_among held d config.local_as asn (is_strictly_under d) (λ q e. e)))

    -- where d covers it strictly
    module _ (apart : covers p d ≡ false) (under : covers d p ≡ true)
        (both : are_both_against config (best_match_of now d) swap.old (path_at swap.peer p now) ≡ true) where
      abbrev against : Option Path → Bool
      against path = is_against config (best_match_of now d) path

      abbrev others : List Route → Bool
      others held = others_under held d config.local_as asn

      -- the path at the place is against the best match, or another one is
      others_beside : (held : List Route) → others held ≡ (against (path_at swap.peer p held) || others (take_path swap.peer p held))
      others_beside held = any_beside (λ r. is_strictly_under d r.0.prefix && is_other config.local_as asn r.1) against (is_at (place_cmp place)) refl
          (λ q path e. ap (λ b. b && is_other config.local_as asn path)
          (subst (λ z. is_strictly_under d z.prefix ≡ true) (exact_place place q e) (strictly d p under apart))) held

      stays_under : validity_to earlier config route (Some d) ≡ validity_to now config route (Some d)
      stays_under = same_validity (ap (read config route)
          (same_by (λ held. best_match_of held d) (λ q. covers q d) apart (λ held. best_match_covers held d (λ q. covers q d) (λ q e. e))))
          (others_beside earlier ∙ ap₂ (λ a b. a || b) (ap against h.was
          ∙ both_or_neither (against swap.old) (against (path_at swap.peer p now)) both) (ap others h.beside) ∙ sym (others_beside now))

pub stays_judged : Stays
stays_judged config d swap earlier now h stays route = at (covers swap.prefix d) refl (covers d swap.prefix) refl stays where
  at : (a : Bool) → covers swap.prefix d ≡ a → (b : Bool) → covers d swap.prefix ≡ b
      → cond a (is_alike config (best_at earlier swap.prefix) (best_at now swap.prefix))
      (cond b (are_both_against config (best_match_of now d) swap.old (path_at swap.peer swap.prefix now)) true) ≡ true
      → validity_to earlier config route (Some d) ≡ validity_to now config route (Some d)
  at true e b f k = stays_over swap earlier now h config d route e k
  at false e true f k = stays_under swap earlier now h config d route e f k
  at false e false f k = validity_local config route (Some d) earlier now
      (same_beside swap earlier now h (is_related d) (ap (λ b. b || covers d swap.prefix) e ∙ f))
