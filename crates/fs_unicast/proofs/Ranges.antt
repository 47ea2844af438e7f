-- The ranges of places that a look-up goes over.
use Rattle.fs_unicast.proofs.Words.{ℕ, ◌≡◌, ◌≤◌, refl, sym, ap, subst, ◌∙◌, Bool, true, false, true≢false, cond, not, ◌&&◌, ◌||◌, nat_le, ◌==◌, find}
use Rattle.fs_unicast.proofs.Words.{option_map, List, [], ◌∷◌, Some, None, filter, map, Option, Ordering, Less, Equal, Greater, is_eq, is_le, is_lt}
use Rattle.fs_unicast.proofs.Words.{nat_cmp, arith, AllByRecursion, list_any, list_all, IsStrictlySortedBy, keys_of, ordering_then, ordering_reverse}
use Rattle.fs_unicast.proofs.Words.{tied_itself, nat_cmp_total, alike_right, nat_tests, range_contains, entries_between, Included, Excluded}
use Rattle.fs_unicast.proofs.Words.{Unbounded, and_both, and_parts, or_implied, or_implies, same_tests, Prefix, covers, prefix_cmp, prefix_total}
use Rattle.fs_unicast.proofs.Words.{filter_on, filter_none, filter_first, filter_empty, find_filter, find_on, IsLeast, each, each_weaker, each_of_map}
use Rattle.fs_unicast.proofs.Words.{each_all, all_each, any_each, any_on, any_weaker, each_filtered, filter_filtered, alike, alike_covers}
use Rattle.fs_unicast.proofs.Words.{covers_nested, covers_same_length, IsFirst, IsLongest, sorted_head, sorted_tail, is_eq_of_first, Place, Route}
use Rattle.fs_unicast.proofs.Words.{place_cmp, IsFront, is_same_prefix, is_strictly_under, is_other, others_under, best_at, best_match_of, is_longest}
use Rattle.fs_unicast.proofs.Words.{is_from, held_by, candidate, start_of, is_within, best_of}
use Rattle.fs_unicast.proofs.PlaceOrder.{below_not_upto}

abbrev pub place : Prefix → ℕ → Place
place p n = record { prefix = p; peer = n }

pub from_same : (o : Ordering) (n : ℕ) → is_eq o ≡ true → (is_le (ordering_then o (nat_cmp 0 n)) && true) ≡ true
from_same Less n h = refl
from_same Equal n h = grind (arith, nat_tests)
from_same Greater n h = absurd (true≢false (sym h))

-- a route at a prefix, and one at a place from the prefix on
abbrev is_at_prefix : Prefix → Route → Bool
is_at_prefix p r = is_same_prefix p r.0.prefix

abbrev starts : Prefix → Place → Bool
starts p q = range_contains place_cmp (Included (place p 0)) Unbounded q

-- the routes of one prefix are among those from it on
pub best_starts : (p : Prefix) (held found : List Route) → found ≡ entries_between place_cmp (Included (place p 0)) Unbounded held
    → best_of (map candidate (filter (λ r. is_same_prefix p r.0.prefix) found)) ≡ best_at held p
best_starts p held found e = ap (λ rs. best_of (map candidate rs)) (ap (filter (λ r. is_same_prefix p r.0.prefix)) e
    ∙ filter_filtered (is_at_prefix p) (λ r. starts p r.0) (λ r. from_same (prefix_cmp p r.0.prefix) r.0.peer) held)

later_prefix : (p : Prefix) (r s : Place) → starts p r ≡ true → is_same_prefix p r.prefix ≡ false → place_cmp r s ≡ Less → is_same_prefix p s.prefix ≡ false
later_prefix p r s h k l = ap is_eq (behind (prefix_cmp r.prefix s.prefix) refl l) where
  less : (o : Ordering) → (is_le (ordering_then o (nat_cmp 0 r.peer)) && true) ≡ true → is_eq o ≡ false → o ≡ Less
  less Less g e = refl
  less Equal g e = absurd (true≢false e)
  less Greater g e = absurd (true≢false (sym g))

  below : prefix_cmp p r.prefix ≡ Less
  below = less (prefix_cmp p r.prefix) h k

  behind : (o : Ordering) → prefix_cmp r.prefix s.prefix ≡ o → ordering_then o (nat_cmp r.peer s.peer) ≡ Less → prefix_cmp p s.prefix ≡ Less
  behind Less e g = prefix_total.trans p r.prefix s.prefix below e
  behind Equal e g = sym (alike_right prefix_total r.prefix s.prefix p e) ∙ below
  behind Greater e g = absurd (true≢false (sym (ap is_lt g)))

pub front_range : (p : Prefix) (held : List Route) → IsStrictlySortedBy place_cmp (keys_of held)
    → IsFront p (entries_between place_cmp (Included (place p 0)) Unbounded held)
front_range p [] sorted = tt
front_range p (r ∷ held) sorted = at (starts p r.0) refl (front_range p held (sorted_tail place_cmp r.0 (keys_of held) sorted)) where
  among : Route → Bool
  among s = starts p s.0

  above : AllByRecursion (λ s. place_cmp r.0 s.0 ≡ Less) held
  above = each_of_map (λ s. s.0) (λ q. place_cmp r.0 q ≡ Less) held (sorted_head place_cmp r.0 (keys_of held) sorted)

  at : (b : Bool) → among r ≡ b → IsFront p (filter among held) → IsFront p (cond b (r ∷ filter among held) (filter among held))
  at true e ih = (
    (λ k. filter_none (is_at_prefix p) (filter among held) (each_filtered (λ s. is_at_prefix p s ≡ false) among held
        (each_weaker (λ s. place_cmp r.0 s.0 ≡ Less) (λ s. is_at_prefix p s ≡ false) (λ s l. later_prefix p r.0 s.0 e k l) held above))),
    ih,
  )
  at false e ih = ih

under_tests : (a o : Ordering) (n : ℕ)
    → (is_le (ordering_then a (nat_cmp 0 n)) && not (is_le (ordering_then o (nat_cmp 0 n))))
    ≡ ((is_le a && is_le (ordering_reverse o)) && not (is_eq o))
under_tests Less Less n = refl
under_tests Less Equal n = grind (arith, nat_tests)
under_tests Less Greater n = refl
under_tests Equal Less n = grind (arith, nat_tests)
under_tests Equal Equal n = grind (arith, nat_tests)
under_tests Equal Greater n = grind (arith, nat_tests)
under_tests Greater Less n = refl
under_tests Greater Equal n = refl
under_tests Greater Greater n = refl

-- the places strictly under a prefix, of which `first` is the first
pub under_range : (d first : Prefix) (q : Place) → ((p : Prefix) → covers d p ≡ (is_le (prefix_cmp first p) && is_le (prefix_cmp p d)))
    → range_contains place_cmp (Included (place first 0)) (Excluded (place d 0)) q ≡ is_strictly_under d q.prefix
under_range d first q law = under_tests (prefix_cmp first q.prefix) (prefix_cmp d q.prefix) q.peer
    ∙ ap (λ o. (is_le (prefix_cmp first q.prefix) && is_le o) && not (is_eq (prefix_cmp d q.prefix))) (sym (prefix_total.antisymm q.prefix d))
    ∙ ap (λ b. b && not (is_eq (prefix_cmp d q.prefix))) (sym (law q.prefix))

pub others_in_range : (d first : Prefix) (local_as : ℕ) (asn : Option ℕ) (held : List Route)
    → ((p : Prefix) → covers d p ≡ (is_le (prefix_cmp first p) && is_le (prefix_cmp p d)))
    → list_any (λ r. is_within (place first 0) (place d 0) r.0 && is_other local_as asn r.1) held ≡ others_under held d local_as asn
others_in_range d first local_as asn held law = any_on (λ r. inside r && other r) (λ r. is_strictly_under d r.0.prefix && other r) held
    (each (λ r. (inside r && other r) ≡ (is_strictly_under d r.0.prefix && other r)) (λ r. ap (λ b. b && other r) (within_under r.0)) held) where
      inside : Route → Bool
      inside r = is_within (place first 0) (place d 0) r.0

      other : Route → Bool
      other r = is_other local_as asn r.1

      within_under : (q : Place) → is_within (place first 0) (place d 0) q ≡ is_strictly_under d q.prefix
      within_under q = ap (λ b. is_le (place_cmp (place first 0) q) && b) (below_not_upto q (place d 0)) ∙ under_range d first q law

pub from_test : (o : Ordering) (n : ℕ) → (is_le (ordering_then o (nat_cmp 0 n)) && true) ≡ is_le o
from_test Less n = refl
from_test Equal n = grind (arith, nat_tests)
from_test Greater n = refl

first_le : (o p : Ordering) → is_le (ordering_then o p) ≡ true → is_le o ≡ true
first_le Less p h = refl
first_le Equal p h = refl
first_le Greater p h = h

equal_then : (o p : Ordering) → o ≡ Equal → p ≡ Equal → ordering_then o p ≡ Equal
equal_then o p h k = ap (λ a. ordering_then a p) h ∙ k

pub place_itself : (q : Place) → place_cmp q q ≡ Equal
place_itself q = equal_then (prefix_cmp q.prefix q.prefix) (nat_cmp q.peer q.peer) (tied_itself prefix_total q.prefix) (tied_itself nat_cmp_total q.peer)

-- the first place from low on has the first prefix from low on
pub first_in_range : (low : Prefix) (held : List Route) → IsStrictlySortedBy place_cmp (keys_of held) → (found : List Route) (x : Route) (rest : List Route)
    → found ≡ entries_between place_cmp (Included (place low 0)) Unbounded held → found ≡ x ∷ rest → IsFirst (λ r. r.0.prefix) held low x.0.prefix
first_in_range low held sorted found x rest e k = record {
  there = any_weaker (λ r. is_eq (place_cmp x.0 r.0)) (is_at_prefix x.0.prefix)
      (λ r. is_eq_of_first (prefix_cmp x.0.prefix r.0.prefix) (nat_cmp x.0.peer r.0.peer)) held first.there;
  from = sym (from_test (prefix_cmp low x.0.prefix) x.0.peer) ∙ first.passes;
  least = each_weaker (λ r. starts low r.0 ≡ true → is_le (place_cmp x.0 r.0) ≡ true) (λ r. is_le (prefix_cmp low r.0.prefix) ≡ true
      → is_le (prefix_cmp x.0.prefix r.0.prefix) ≡ true)
      (λ r h f. first_le (prefix_cmp x.0.prefix r.0.prefix) (nat_cmp x.0.peer r.0.peer) (h (from_test (prefix_cmp low r.0.prefix) r.0.peer ∙ f))) held
      first.least;
} where
  first : IsLeast place_cmp (starts low) held x.0
  first = filter_first place_cmp place_itself (starts low) held sorted x rest (sym e ∙ k)

pub none_in_range : (low : Prefix) (held found : List Route) → found ≡ entries_between place_cmp (Included (place low 0)) Unbounded held → found ≡ []
    → AllByRecursion (λ r. is_le (prefix_cmp low r.0.prefix) ≡ false) held
none_in_range low held found e k = each_weaker (λ r. starts low r.0 ≡ false) (λ r. is_le (prefix_cmp low r.0.prefix) ≡ false)
    (λ r h. sym (from_test (prefix_cmp low r.0.prefix) r.0.peer) ∙ h) held (filter_empty (λ r. starts low r.0) held (sym e ∙ k))

-- the second route's prefix is no longer than the first one's, if it covers d
abbrev no_longer : Prefix → Route → Route → Bool
no_longer d r s = not (covers s.0.prefix d) || nat_le s.0.prefix.length r.0.prefix.length

-- where q is the longest prefix that covers d and has a route, the routes at q are those that the best match is of
module _ (held : List Route) (d q : Prefix) (h : IsLongest (λ r. r.0.prefix) held d q) where
  abbrev IsShort : Route → Type 0
  IsShort r = covers r.0.prefix d ≡ true → r.0.prefix.length ≤ q.length

  there : (r : Route) → is_at_prefix q r ≡ true → is_longest held d r ≡ true
  there r e = and_both (covers r.0.prefix d) (list_all (no_longer d r) held) (sym (alike_covers q r.0.prefix d e)
      ∙ h.over) (each_all (no_longer d r) held (each_weaker IsShort (λ s. no_longer d r s ≡ true) short_of held h.longest)) where
        le-leb_true : (m n : ℕ) → m ≤ n → nat_le m n ≡ true
        le-leb_true m n k = grind (arith, nat_tests)

        short_of : (s : Route) → IsShort s → no_longer d r s ≡ true
        short_of s k = or_implies (covers s.0.prefix d) (nat_le s.0.prefix.length r.0.prefix.length)
            (λ c. le-leb_true s.0.prefix.length r.0.prefix.length (subst (λ n. s.0.prefix.length ≤ n) (alike q r.0.prefix e).length (k c)))

  back : (r : Route) → IsShort r → is_longest held d r ≡ true → is_at_prefix q r ≡ true
  back r short e = any_each (is_at_prefix q) (λ s. no_longer d r s ≡ true) (is_at_prefix q r ≡ true) held h.there
      (all_each (no_longer d r) held parts.1) at where
        parts : (covers r.0.prefix d ≡ true) × (list_all (no_longer d r) held ≡ true)
        parts = and_parts (covers r.0.prefix d) (list_all (no_longer d r) held) e

        leb_le : (m n : ℕ) → nat_le m n ≡ true → m ≤ n
        leb_le m n k = grind (arith, nat_tests)

        at : (s : Route) → is_at_prefix q s ≡ true → no_longer d r s ≡ true → is_at_prefix q r ≡ true
        at s k l = let over : covers s.0.prefix d ≡ true = sym (alike_covers q s.0.prefix d k) ∙ h.over in
            let longer : s.0.prefix.length ≤ r.0.prefix.length =
            leb_le s.0.prefix.length r.0.prefix.length (or_implied (covers s.0.prefix d) (nat_le s.0.prefix.length r.0.prefix.length) l over) in
            let same_length : q.length ≡ s.0.prefix.length = (alike q s.0.prefix k).length in
            let shorter : r.0.prefix.length ≤ q.length = short parts.0 in
            covers_same_length q r.0.prefix (covers_nested q r.0.prefix d h.over parts.0 (omega arith)) (omega arith)

  longest_at : filter (is_at_prefix q) held ≡ filter (is_longest held d) held
  longest_at = filter_on (is_at_prefix q) (is_longest held d) held
      (each_weaker IsShort (λ r. is_at_prefix q r ≡ is_longest held d r)
      (λ r short. same_tests (is_at_prefix q r) (is_longest held d r) (there r) (back r short)) held h.longest)

pub best_at_longest : (held : List Route) (d q : Prefix) → IsLongest (λ r. r.0.prefix) held d q → best_at held q ≡ best_match_of held d
best_at_longest held d q h = ap (λ rs. best_of (map candidate rs)) (longest_at held d q h)

-- where no route's prefix covers d there is no best match
pub no_best : (held : List Route) (d : Prefix) → AllByRecursion (λ r. covers r.0.prefix d ≡ false) held → None ≡ best_match_of held d
no_best held d h = ap (λ rs. best_of (map candidate rs))
    (sym (filter_none (is_longest held d) held
    (each_weaker (λ r. covers r.0.prefix d ≡ false) (λ r. is_longest held d r ≡ false) (λ r k. ap (λ b. b && list_all (no_longer d r) held) k) held
    h)))

from_start : (from : Option Prefix) (q : Place) → range_contains place_cmp (start_of from) Unbounded q ≡ is_from from q.prefix
from_start None q = refl
from_start (Some low) q = from_test (prefix_cmp low q.prefix) q.peer

pub held_in_range : (held found : List Route) (peer : ℕ) (from : Option Prefix) → found ≡ entries_between place_cmp (start_of from) Unbounded held
    → option_map (λ r. r.0.prefix) (find (λ r. r.0.peer == peer) found) ≡ held_by held peer from
held_in_range held found peer from e = ap (option_map (λ r. r.0.prefix)) (ap (find is_its) e
    ∙ find_filter (λ r. range_contains place_cmp (start_of from) Unbounded r.0) is_its held
    ∙ find_on (λ r. range_contains place_cmp (start_of from) Unbounded r.0 && is_its r) (λ r. is_from from r.0.prefix && is_its r) held
    (each (λ r. (range_contains place_cmp (start_of from) Unbounded r.0 && is_its r) ≡ (is_from from r.0.prefix && is_its r))
    (λ r. ap (λ b. b && is_its r) (from_start from r.0)) held)) where
      is_its : Route → Bool
      is_its r = r.0.peer == peer
