-- A peer's unicast routes are taken away one after the other.
use Rattle.fs_rules.proofs.Words.{ℕ, ◌≡◌, ◌+◌, ◌<◌, ◌≤◌, refl, sym, ap, subst, ◌∙◌, Bool, true, false, true≢false, not, ◌&&◌, ◌==◌, cond, List, []}
use Rattle.fs_rules.proofs.Words.{◌∷◌, length, find, Option, Some, None, option_map, Ordering, Less, Equal, Greater, is_eq, is_le, nat_cmp, arith}
use Rattle.fs_rules.proofs.Words.{AllByRecursion, ordering_then, nat_tests, is_at, keys_of, remove_entry, IsStrictlySortedBy, tied_itself}
use Rattle.fs_rules.proofs.Words.{sorted_head, sorted_tail, not_of_true, prefix_total, prefix_cmp, Prefix, same_from_cmp, filter-remove_other, each}
use Rattle.fs_rules.proofs.Words.{each_weaker, each_of_map, each_remove, find_on, is_le_of_then, is_eq_of_first, Route, place_cmp, Place, held_by}
use Rattle.fs_rules.proofs.Words.{is_from, place, place_itself, FlowRoute, Held, without_peer_unicast, related_count, related_sum}
use Rattle.fs_rules.proofs.Chosen.{with_unicast}

-- the removed place is the peer's, and at the prefix
pub peers_equal : (o : Ordering) (m n : ℕ) → is_eq (ordering_then o (nat_cmp m n)) ≡ true → (n == m) ≡ true
peers_equal Less m n h = absurd (true≢false (sym h))
peers_equal Equal m n h = grind (arith, nat_tests)
peers_equal Greater m n h = absurd (true≢false (sym h))

abbrev pub is_place : Prefix → ℕ → Place → Bool
is_place prefix peer q = is_at (place_cmp (place prefix peer)) q

pub others_stay : (prefix : Prefix) (peer : ℕ) (unicast : List Route)
    → without_peer_unicast peer (remove_entry (is_place prefix peer) unicast) ≡ without_peer_unicast peer unicast
others_stay prefix peer unicast =
    filter-remove_other (λ q. not (q.peer == peer)) (is_place prefix peer)
    (λ q h. not_of_true (q.peer == peer) (peers_equal (prefix_cmp prefix q.prefix) peer q.peer h)) unicast

-- there is an entry of the peer at the prefix that was found
pub record Hit (prefix : Prefix) (peer : ℕ) (unicast : List Route) : Type 0 where
  pub shorter : length (remove_entry (is_place prefix peer) unicast) < length unicast
  pub sum : (flows : List FlowRoute)
      → related_sum peer (remove_entry (is_place prefix peer) unicast) flows + related_count prefix flows ≡ related_sum peer unicast flows

-- an entry of the peer at the prefix is the one that is removed
pub hit_at : (prefix : Prefix) (peer : ℕ) (r : Route) (rs : List Route) (b : Bool) → is_place prefix peer r.0 ≡ b → (b ≡ false → Hit prefix peer rs)
    → Hit prefix peer (r ∷ rs)
hit_at prefix peer r rs true h ih = record { shorter = shorter; sum = sum } where
  gone : remove_entry (is_place prefix peer) (r ∷ rs) ≡ rs
  gone = ap (λ b. cond b rs (r ∷ remove_entry (is_place prefix peer) rs)) h

  shorter : length (remove_entry (is_place prefix peer) (r ∷ rs)) < length (r ∷ rs)
  shorter = subst (λ n. n < length (r ∷ rs)) (sym (ap length gone)) (omega arith)

  same : r.0.prefix ≡ prefix
  same = sym (same_from_cmp prefix r.0.prefix (is_eq_of_first (prefix_cmp prefix r.0.prefix) (nat_cmp peer r.0.peer) h))

  mine : (r.0.peer == peer) ≡ true
  mine = peers_equal (prefix_cmp prefix r.0.prefix) peer r.0.peer h

  sum : (flows : List FlowRoute)
      → related_sum peer (remove_entry (is_place prefix peer) (r ∷ rs)) flows + related_count prefix flows ≡ related_sum peer (r ∷ rs) flows
  sum flows = ap (λ es. related_sum peer es flows + related_count prefix flows) gone
      ∙ (let e : cond (r.0.peer == peer) (related_count r.0.prefix flows) 0 ≡ related_count prefix flows =
      ap (λ b. cond b (related_count r.0.prefix flows) 0) mine ∙ ap (λ p. related_count p flows) same in
      let t : related_sum peer rs flows + related_count prefix flows ≡ cond (r.0.peer == peer) (related_count r.0.prefix flows) 0
      + related_sum peer rs flows = omega arith in t)
hit_at prefix peer r rs false h ih = record { shorter = shorter; sum = sum } where
  rest : Hit prefix peer rs
  rest = ih refl

  stays : remove_entry (is_place prefix peer) (r ∷ rs) ≡ r ∷ remove_entry (is_place prefix peer) rs
  stays = ap (λ b. cond b rs (r ∷ remove_entry (is_place prefix peer) rs)) h

  shorter : length (remove_entry (is_place prefix peer) (r ∷ rs)) < length (r ∷ rs)
  shorter = subst (λ n. n < length (r ∷ rs)) (sym (ap length stays)) (let s : length (remove_entry (is_place prefix peer) rs) < length rs =
      rest.shorter in omega arith)

  sum : (flows : List FlowRoute)
      → related_sum peer (remove_entry (is_place prefix peer) (r ∷ rs)) flows + related_count prefix flows ≡ related_sum peer (r ∷ rs) flows
  sum flows = ap (λ es. related_sum peer es flows + related_count prefix flows) stays
      ∙ (let s : related_sum peer (remove_entry (is_place prefix peer) rs) flows + related_count prefix flows ≡ related_sum peer rs flows = rest.sum flows in
      let t : cond (r.0.peer == peer) (related_count r.0.prefix flows) 0 + related_sum peer (remove_entry (is_place prefix peer) rs) flows
      + related_count prefix flows ≡ cond (r.0.peer == peer) (related_count r.0.prefix flows) 0 + related_sum peer rs flows = omega arith in t)

pub found_hit : (prefix : Prefix) (peer : ℕ) (unicast : List Route) → held_by unicast peer None ≡ Some prefix → Hit prefix peer unicast
found_hit prefix peer [] h = cc
found_hit prefix peer (r ∷ rs) h = hit_at prefix peer r rs (is_place prefix peer r.0) refl (at (r.0.peer == peer) refl h (found_hit prefix peer rs)) where
  itself : r.0.prefix ≡ prefix → (r.0.peer == peer) ≡ true → is_place prefix peer r.0 ≡ true
  itself e k = ap (λ p. is_at (place_cmp (place p peer)) r.0) (sym e) ∙ same_peer r.0 peer k where
    same_number : (q : Place) (n : ℕ) → (q.peer == n) ≡ true → q.peer ≡ n
    same_number q n k = grind (arith, nat_tests)

    same_peer : (q : Place) (n : ℕ) → (q.peer == n) ≡ true → is_at (place_cmp (place q.prefix n)) q ≡ true
    same_peer q n k = ap (λ m. is_at (place_cmp (place q.prefix m)) q) (sym (same_number q n k)) ∙ ap is_eq (place_itself q)

  at : (b : Bool) → (r.0.peer == peer) ≡ b
      → option_map (λ r. r.0.prefix) (cond b (Some r) (find (λ r. is_from None r.0.prefix && (r.0.peer == peer)) rs)) ≡ Some prefix
      → (held_by rs peer None ≡ Some prefix → Hit prefix peer rs) → is_place prefix peer r.0 ≡ false → Hit prefix peer rs
  at true e k ih f = absurd (true≢false (sym (itself (same k) e) ∙ f)) where
    same : Some r.0.prefix ≡ Some prefix → r.0.prefix ≡ prefix
    same m = cc
  at false e k ih f = ih k

-- nothing of the peer is left
pub none_left : (peer : ℕ) (unicast : List Route) → held_by unicast peer None ≡ None → without_peer_unicast peer unicast ≡ unicast
none_left peer [] h = refl
none_left peer (r ∷ rs) h = at (r.0.peer == peer) refl h (none_left peer rs) where
  at : (b : Bool) → (r.0.peer == peer) ≡ b
      → option_map (λ r. r.0.prefix) (cond b (Some r) (find (λ r. is_from None r.0.prefix && (r.0.peer == peer)) rs)) ≡ None
      → (held_by rs peer None ≡ None → without_peer_unicast peer rs ≡ rs)
      → cond (not b) (r ∷ without_peer_unicast peer rs) (without_peer_unicast peer rs) ≡ r ∷ rs
  at true e k ih = cc
  at false e k ih = ap (λ xs. r ∷ xs) (ih k)

-- The search goes on from the prefix that was found last: no route of the peer stands before it.
abbrev pub Passed : ℕ → Option Prefix → List Route → Type 0
Passed peer from unicast = AllByRecursion (λ r. (r.0.peer == peer) ≡ true → is_from from r.0.prefix ≡ true) unicast

pub passed_starts : (peer : ℕ) (unicast : List Route) → Passed peer None unicast
passed_starts peer unicast = each (λ r. (r.0.peer == peer) ≡ true → is_from None r.0.prefix ≡ true) (λ r h. refl) unicast

both_tests : (a b : Bool) → (b ≡ true → a ≡ true) → (a && b) ≡ (true && b)
both_tests true b h = refl
both_tests false true h = h refl
both_tests false false h = refl

pub from_start : (peer : ℕ) (from : Option Prefix) (unicast : List Route) → Passed peer from unicast → held_by unicast peer from ≡ held_by unicast peer None
from_start peer from unicast h =
    ap (option_map (λ r. r.0.prefix))
    (find_on (λ r. is_from from r.0.prefix && (r.0.peer == peer)) (λ r. is_from None r.0.prefix && (r.0.peer == peer)) unicast
    (each_weaker (λ r. (r.0.peer == peer) ≡ true
    → is_from from r.0.prefix ≡ true) (λ r. (is_from from r.0.prefix && (r.0.peer == peer)) ≡ (is_from None r.0.prefix && (r.0.peer == peer)))
    (λ r k. both_tests (is_from from r.0.prefix) (r.0.peer == peer) k) unicast h))

-- the first that is found stands before the others of the peer
first_is_least : (peer : ℕ) (unicast : List Route) (prefix : Prefix) → IsStrictlySortedBy place_cmp (keys_of unicast)
    → held_by unicast peer None ≡ Some prefix → Passed peer (Some prefix) unicast
first_is_least peer [] prefix sorted h = tt
first_is_least peer (r ∷ rs) prefix sorted h =
    at (r.0.peer == peer) refl h (first_is_least peer rs prefix (sorted_tail place_cmp r.0 (keys_of rs) sorted)) where
      here : r.0.prefix ≡ prefix → Passed peer (Some prefix) (r ∷ rs)
      here e = subst (λ p. Passed peer (Some p) (r ∷ rs)) e (
        (λ _. ap is_le (tied_itself prefix_total r.0.prefix)),
        each_weaker (λ s. place_cmp r.0 s.0 ≡ Less) (λ s. (s.0.peer == peer) ≡ true
            → is_from (Some r.0.prefix) s.0.prefix ≡ true) (λ s less _. is_le_of_then (prefix_cmp r.0.prefix s.0.prefix) (nat_cmp r.0.peer s.0.peer) less)
            rs
            (each_of_map (λ s. s.0) (λ q. place_cmp r.0 q ≡ Less) rs (sorted_head place_cmp r.0 (keys_of rs) sorted)),
      )

      at : (b : Bool) → (r.0.peer == peer) ≡ b
          → option_map (λ r. r.0.prefix) (cond b (Some r) (find (λ r. is_from None r.0.prefix && (r.0.peer == peer)) rs)) ≡ Some prefix
          → (held_by rs peer None ≡ Some prefix → Passed peer (Some prefix) rs) → Passed peer (Some prefix) (r ∷ rs)
      at true e k ih = here (same k) where
        same : Some r.0.prefix ≡ Some prefix → r.0.prefix ≡ prefix
        same m = cc
      at false e k ih = ((λ f. absurd (true≢false (sym f ∙ e))), ih k)

pub passed_more : (peer : ℕ) (now new : Held) (prefix : Prefix) → IsStrictlySortedBy place_cmp (keys_of now.unicast)
    → held_by now.unicast peer None ≡ Some prefix
    → new ≡ with_unicast (remove_entry (is_place prefix peer)) now → Passed peer (Some prefix) new.unicast
passed_more peer now new prefix sorted found e = subst (Passed peer (Some prefix)) (sym (ap (λ held. held.unicast) e))
    (each_remove (λ r. (r.0.peer == peer) ≡ true → is_from (Some prefix) r.0.prefix ≡ true) (is_place prefix peer) now.unicast
    (first_is_least peer now.unicast prefix sorted found))

-- from start to now
pub record IsLosing (peer : ℕ) (start now : Held) (before after : ℕ) : Type 0 where
  pub config : now.config ≡ start.config
  pub flows : now.flows ≡ start.flows
  pub others : without_peer_unicast peer now.unicast ≡ without_peer_unicast peer start.unicast
  pub later : before ≤ after
  pub steps : after + related_sum peer now.unicast start.flows ≤ before + related_sum peer start.unicast start.flows

pub losing_starts : (peer : ℕ) (start : Held) (before : ℕ) → IsLosing peer start start before before
losing_starts peer start before = record { config = refl; flows = refl; others = refl; later = omega arith; steps = omega arith }

pub losing_more : (peer : ℕ) (start now new : Held) (before after more : ℕ) (prefix : Prefix) → IsLosing peer start now before after
    → Hit prefix peer now.unicast
    → new ≡ with_unicast (remove_entry (is_place prefix peer)) now → after ≤ more → more ≤ after + related_count prefix now.flows
    → IsLosing peer start new before more
losing_more peer start now new before after more prefix h hit e later steps = record {
  config = ap (λ held. held.config) e ∙ h.config;
  flows = ap (λ held. held.flows) e ∙ h.flows;
  others = ap (λ held. without_peer_unicast peer held.unicast) e ∙ others_stay prefix peer now.unicast ∙ h.others;
  later = omega (arith, h.later);
  steps = sums;
} where
  unicast : new.unicast ≡ remove_entry (is_place prefix peer) now.unicast
  unicast = ap (λ held. held.unicast) e

  one : related_sum peer new.unicast start.flows + related_count prefix start.flows ≡ related_sum peer now.unicast start.flows
  one = ap (λ es. related_sum peer es start.flows + related_count prefix start.flows) unicast ∙ hit.sum start.flows

  cost : related_count prefix now.flows ≡ related_count prefix start.flows
  cost = ap (related_count prefix) h.flows

  sums : more + related_sum peer new.unicast start.flows ≤ before + related_sum peer start.unicast start.flows
  sums = omega (arith, one, cost, steps, h.steps)

pub losing_shorter : (peer : ℕ) (now new : Held) (prefix : Prefix) → held_by now.unicast peer None ≡ Some prefix
    → new ≡ with_unicast (remove_entry (is_place prefix peer)) now → length new.unicast < length now.unicast
losing_shorter peer now new prefix found e =
    subst (λ n. n < length now.unicast) (sym (ap (λ held. length held.unicast) e)) (found_hit prefix peer now.unicast found).shorter

pub losing_ends : (peer : ℕ) (start now : Held) (before after : ℕ) → IsLosing peer start now before after
    → without_peer_unicast peer now.unicast ≡ now.unicast → now ≡ with_unicast (without_peer_unicast peer) start
losing_ends peer start now before after h none = same now (with_unicast (without_peer_unicast peer) start) h.config (sym none ∙ h.others) h.flows where
  same : (a b : Held) → a.config ≡ b.config → a.unicast ≡ b.unicast → a.flows ≡ b.flows → a ≡ b
  same a b c u f = λ i. record { config = c i; unicast = u i; flows = f i }
