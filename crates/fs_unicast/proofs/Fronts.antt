-- The first prefix from another on that has a route: its routes stand in front of the range, and where it isn't one under
-- the prefix under which the range begins, nothing lies under that one.
use Rattle.std.proofs.Common.{IfSome}
use Rattle.fs_unicast.proofs.Words.{ℕ, ◌≡◌, refl, sym, ap, subst, ◌∙◌, Bool, true, false, true≢false, not, ◌&&◌, List, ◌∷◌, cond, None, filter, map}
use Rattle.fs_unicast.proofs.Words.{fold, Ordering, Less, Equal, Greater, is_eq, is_le, Option, Some, [], AllByRecursion, IsStrictlySortedBy, keys_of}
use Rattle.fs_unicast.proofs.Words.{ordering_reverse, tied_itself, alike_right, range_contains, entries_between, Included, Unbounded, Prefix, covers}
use Rattle.fs_unicast.proofs.Words.{prefix_cmp, prefix_total, IsFirst, IsLongest, and_both, and_first, and_second, false_from, false_of_not}
use Rattle.fs_unicast.proofs.Words.{same_tests, covered_before, alike_covers, covers_self, each_weaker, each_none, none_each, filter_on}
use Rattle.fs_unicast.proofs.Words.{same_from_cmp, Seeking, seeking_starts, seeking_ends, seeking_found, seeking_more, seeking_apart, Path, better}
use Rattle.fs_unicast.proofs.Words.{preferred, Route, place_cmp, AreCoversOver, IsFront, candidate, is_same_prefix, is_strictly_under, is_other}
use Rattle.fs_unicast.proofs.Words.{is_other_route, best_at, best_match_of, others_under}
use Rattle.fs_unicast.proofs.Ranges.{place, first_in_range, front_range, best_starts, from_test, no_best}

pub upto_upto : (x y z : Prefix) → is_le (prefix_cmp x y) ≡ true → is_le (prefix_cmp y z) ≡ true → is_le (prefix_cmp x z) ≡ true
upto_upto x y z h k = at (prefix_cmp x y) refl h (prefix_cmp y z) refl k where
  at : (o : Ordering) → prefix_cmp x y ≡ o → is_le o ≡ true → (p : Ordering) → prefix_cmp y z ≡ p → is_le p ≡ true → is_le (prefix_cmp x z) ≡ true
  at Greater e l p f m = absurd (true≢false (sym l))
  at Equal e l p f m = ap is_le (prefix_total.congr x y z e) ∙ k
  at Less e l Greater f m = absurd (true≢false (sym m))
  at Less e l Equal f m = sym (ap is_le (alike_right prefix_total y z x f)) ∙ ap is_le e
  at Less e l Less f m = ap is_le (prefix_total.trans x y z e f)

-- not before and not behind
both_ways : (x y : Prefix) → is_le (prefix_cmp x y) ≡ true → is_le (prefix_cmp y x) ≡ true → is_eq (prefix_cmp x y) ≡ true
both_ways x y h k = at (prefix_cmp x y) h (sym (ap is_le (prefix_total.antisymm y x)) ∙ k) where
  at : (o : Ordering) → is_le o ≡ true → is_le (ordering_reverse o) ≡ true → is_eq o ≡ true
  at Less l m = absurd (true≢false (sym m))
  at Equal l m = refl
  at Greater l m = absurd (true≢false (sym l))

-- a route at the prefix counts before those behind it
goes_on : (p : Prefix) (best : Option (ℕ × Path)) (r : Route) (rs : List Route) → is_same_prefix p r.0.prefix ≡ true
    → fold better (better best (candidate r)) (map candidate (filter (λ s. is_same_prefix p s.0.prefix) rs))
    ≡ fold better best (map candidate (filter (λ s. is_same_prefix p s.0.prefix) (r ∷ rs)))
goes_on p best r rs same = ap (λ ss. fold better best (map candidate ss))
    (sym (ap (λ b. cond b (r ∷ filter (λ s. is_same_prefix p s.0.prefix) rs) (filter (λ s. is_same_prefix p s.0.prefix) rs)) same))

module _ (low : Prefix) (held : List Route) (sorted : IsStrictlySortedBy place_cmp (keys_of held)) (found : List Route) (x : Route) (rest : List Route)
    (e : found ≡ entries_between place_cmp (Included (place low 0)) Unbounded held) (k : found ≡ x ∷ rest) where
  first : IsFirst (λ r. r.0.prefix) held low x.0.prefix
  first = first_in_range low held sorted found x rest e k

  -- the range is also that from the first prefix on
  range_on : found ≡ entries_between place_cmp (Included (place x.0.prefix 0)) Unbounded held
  range_on = e ∙ filter_on (λ r. range_contains place_cmp (Included (place low 0)) Unbounded r.0)
      (λ r. range_contains place_cmp (Included (place x.0.prefix 0)) Unbounded r.0) held
      (each_weaker (λ r. is_le (prefix_cmp low r.0.prefix) ≡ true → is_le (prefix_cmp x.0.prefix r.0.prefix) ≡ true)
      (λ r. range_contains place_cmp (Included (place low 0)) Unbounded r.0 ≡ range_contains place_cmp (Included (place x.0.prefix 0)) Unbounded r.0)
      (λ r h. from_test (prefix_cmp low r.0.prefix) r.0.peer
      ∙ same_tests (is_le (prefix_cmp low r.0.prefix)) (is_le (prefix_cmp x.0.prefix r.0.prefix)) h (upto_upto low x.0.prefix r.0.prefix first.from)
      ∙ sym (from_test (prefix_cmp x.0.prefix r.0.prefix) r.0.peer)) held first.least)

  pub front_behind : IsFront x.0.prefix rest
  front_behind = (subst (IsFront x.0.prefix) (sym range_on ∙ k) (front_range x.0.prefix held sorted)).1

  -- the routes of its prefix are the first one and those with this prefix behind it
  pub best_behind : fold better (better None (candidate x)) (map candidate (filter (λ r. is_same_prefix x.0.prefix r.0.prefix) rest)) ≡ best_at held x.0.prefix
  best_behind = goes_on x.0.prefix None x rest (ap is_eq (tied_itself prefix_total x.0.prefix))
      ∙ ap (λ rs. fold better None (map candidate (filter (λ r. is_same_prefix x.0.prefix r.0.prefix) rs))) (sym k)
      ∙ best_starts x.0.prefix held found range_on

-- not up to, so behind
not_upto : (x y : Prefix) → is_le (prefix_cmp x y) ≡ false → is_le (prefix_cmp y x) ≡ true
not_upto x y h = ap is_le (prefix_total.antisymm y x) ∙ at (prefix_cmp x y) h where
  at : (o : Ordering) → is_le o ≡ false → is_le (ordering_reverse o) ≡ true
  at Less l = absurd (true≢false l)
  at Equal l = absurd (true≢false l)
  at Greater l = refl

-- what all covers of d are over, as the search for the longest knows it
pub seeking : (held : List Route) (d low : Prefix) → AreCoversOver held d low → Seeking (λ r. r.0.prefix) held d low
seeking held d low h = record { over = h.over; each_covers = h.each_covers }

pub covers_over : (held : List Route) (d low : Prefix) → Seeking (λ r. r.0.prefix) held d low → AreCoversOver held d low
covers_over held d low h = record { over = h.over; each_covers = h.each_covers }

module _ (d low : Prefix) (held : List Route) (law : (p : Prefix) → covers d p ≡ (is_le (prefix_cmp low p) && is_le (prefix_cmp p d))) where
  low_upto : is_le (prefix_cmp low d) ≡ true
  low_upto = and_first (is_le (prefix_cmp low d)) (is_le (prefix_cmp d d)) (sym (law d) ∙ covers_self d)

  -- what lies under d lies from low on, and not behind d
  within : (r : Route) → is_strictly_under d r.0.prefix ≡ true → (is_le (prefix_cmp low r.0.prefix) && is_le (prefix_cmp r.0.prefix d)) ≡ true
  within r under = sym (law r.0.prefix) ∙ and_first (covers d r.0.prefix) (not (is_same_prefix d r.0.prefix)) under

  -- a list of routes none of which lies under d
  none_of : (P : Route → Type 0) → ((r : Route) → P r → is_strictly_under d r.0.prefix ≡ true → true ≡ false) → AllByRecursion P held
      → (local_as : ℕ) (asn : Option ℕ) → false ≡ others_under held d local_as asn
  none_of P outside all local_as asn = sym (each_none (λ r. is_strictly_under d r.0.prefix && is_other local_as asn r.1) held
      (each_weaker P (λ r. (is_strictly_under d r.0.prefix && is_other local_as asn r.1) ≡ false)
      (λ r h. at r (is_strictly_under d r.0.prefix) refl (outside r h)) held all)) where
        at : (r : Route) (b : Bool) → is_strictly_under d r.0.prefix ≡ b → (is_strictly_under d r.0.prefix ≡ true → true ≡ false)
            → (is_strictly_under d r.0.prefix && is_other local_as asn r.1) ≡ false
        at r true e f = absurd (true≢false (f e))
        at r false e f = ap (λ b. b && is_other local_as asn r.1) e

  module _ (none : AllByRecursion (λ r. is_le (prefix_cmp low r.0.prefix) ≡ false) held) where
    -- without a route from low on there is neither a cover nor a route under d
    pub no_cover : None ≡ best_match_of held d
    no_cover = no_best held d (seeking_ends (λ r. r.0.prefix) held d d (seeking_starts (λ r. r.0.prefix) held d)
        (each_weaker (λ r. is_le (prefix_cmp low r.0.prefix) ≡ false) (λ r. is_le (prefix_cmp d r.0.prefix) ≡ false)
        (λ r no. false_from (is_le (prefix_cmp d r.0.prefix)) (λ yes. true≢false (sym (upto_upto low d r.0.prefix low_upto yes) ∙ no))) held none))

    pub none_left : (local_as : ℕ) (asn : Option ℕ) → false ≡ others_under held d local_as asn
    none_left = none_of (λ r. is_le (prefix_cmp low r.0.prefix) ≡ false)
        (λ r no under. sym (and_first (is_le (prefix_cmp low r.0.prefix)) (is_le (prefix_cmp r.0.prefix d)) (within r under)) ∙ no) none

  module _ (q : Prefix) (first : IsFirst (λ r. r.0.prefix) held low q) where
    -- the first from low on that d doesn't cover lies behind d
    pub behind : covers d q ≡ false → is_le (prefix_cmp d q) ≡ true
    behind apart = not_upto q d (false_from (is_le (prefix_cmp q d))
        (λ yes. true≢false (sym (law q ∙ and_both (is_le (prefix_cmp low q)) (is_le (prefix_cmp q d)) first.from yes) ∙ apart)))

    -- and so is the first from d on
    pub first_behind : is_le (prefix_cmp d q) ≡ true → IsFirst (λ r. r.0.prefix) held d q
    first_behind past = record {
      there = first.there;
      from = past;
      least = each_weaker (λ r. is_le (prefix_cmp low r.0.prefix) ≡ true
          → is_le (prefix_cmp q r.0.prefix) ≡ true) (λ r. is_le (prefix_cmp d r.0.prefix) ≡ true → is_le (prefix_cmp q r.0.prefix) ≡ true)
          (λ r h from. h (upto_upto low d r.0.prefix low_upto from)) held first.least;
    }

    -- then nothing lies under d
    pub none_under : is_le (prefix_cmp d q) ≡ true → (local_as : ℕ) (asn : Option ℕ) → false ≡ others_under held d local_as asn
    none_under past = none_of (λ r. is_le (prefix_cmp low r.0.prefix) ≡ true → is_le (prefix_cmp q r.0.prefix) ≡ true)
        (λ r h under. sym (both_ways d r.0.prefix
        (upto_upto d q r.0.prefix past (h (and_first (is_le (prefix_cmp low r.0.prefix)) (is_le (prefix_cmp r.0.prefix d)) (within r under))))
        (and_second (is_le (prefix_cmp low r.0.prefix)) (is_le (prefix_cmp r.0.prefix d)) (within r under)))
        ∙ false_of_not (is_same_prefix d r.0.prefix) (and_second (covers d r.0.prefix) (not (is_same_prefix d r.0.prefix)) under)) first.least

    -- where the first from low on covers d, it is the longest that does
    pub longest_over : covers q d ≡ true → IsLongest (λ r. r.0.prefix) held d q
    longest_over over = seeking_found (λ r. r.0.prefix) held d d q (seeking_starts (λ r. r.0.prefix) held d) (first_behind (covered_before q d over)) over

    -- where neither covers the other, each cover of d covers what they have in common, and without that there is none
    pub goes_over : covers d q ≡ false → (both : Prefix) → covers both d ≡ true
        → ((p : Prefix) → covers p d ≡ true → covers p q ≡ true → covers p both ≡ true) → AreCoversOver held d both
    goes_over apart both over longest =
        covers_over held d both (seeking_more (λ r. r.0.prefix) held d d q both (seeking_starts (λ r. r.0.prefix) held d)
        (first_behind (behind apart)) over longest)

    pub nothing_over : covers d q ≡ false → (d.family ≡ q.family → ⊥) → None ≡ best_match_of held d
    nothing_over apart other = no_best held d
        (seeking_apart (λ r. r.0.prefix) held d d q (seeking_starts (λ r. r.0.prefix) held d) (first_behind (behind apart)) other)

-- what holds of each of some routes holds of their best
best_keeps : (P : ℕ × Path → Type 0) (rs : List (ℕ × Path)) (best : Option (ℕ × Path)) → IfSome best P → AllByRecursion P rs → IfSome (fold better best rs) P
best_keeps P [] best h all = h
best_keeps P (r ∷ rs) None h all = best_keeps P rs (Some r) all.0 all.1
best_keeps P (r ∷ rs) (Some s) h all = at (preferred r s) (best_keeps P rs (Some r) all.0 all.1) (best_keeps P rs (Some s) h all.1) where
  at : (b : Bool) → IfSome (fold better (Some r) rs) P → IfSome (fold better (Some s) rs) P → IfSome (fold better (cond b (Some r) (Some s)) rs) P
  at true f g = f
  at false f g = g

-- of the routes that pass
kept_each : (P : ℕ × Path → Type 0) (test : Route → Bool) (held : List Route) → AllByRecursion (λ r. test r ≡ true → P (candidate r)) held
    → AllByRecursion P (map candidate (filter test held))
kept_each P test [] all = tt
kept_each P test (r ∷ held) all = at (test r) refl (kept_each P test held all.1) where
  at : (b : Bool) → test r ≡ b → AllByRecursion P (map candidate (filter test held))
      → AllByRecursion P (map candidate (cond b (r ∷ filter test held) (filter test held)))
  at true e rest = (all.0 e, rest)
  at false e rest = rest

-- The best route at a prefix under d, where it has another neighbouring AS, tells that there is one.
pub best_tells : (held : List Route) (d q : Prefix) (local_as : ℕ) (asn : Option ℕ) (best : Option (ℕ × Path)) → best ≡ best_at held q
    → is_strictly_under d q ≡ true
    → is_other_route local_as asn best ≡ true → true ≡ others_under held d local_as asn
best_tells held d q local_as asn best is under other = at (others_under held d local_as asn) refl where
  unlike : (b : Option (ℕ × Path)) → IfSome b (λ r. is_other local_as asn r.1 ≡ false) → is_other_route local_as asn b ≡ false
  unlike None h = refl
  unlike (Some r) h = h

  same : (r : Route) → (is_strictly_under d r.0.prefix && is_other local_as asn r.1) ≡ false → is_same_prefix q r.0.prefix ≡ true
      → is_other local_as asn r.1 ≡ false
  same r none e = sym (ap (λ b. b && is_other local_as asn r.1) (subst (λ p. is_strictly_under d p ≡ true) (same_from_cmp q r.0.prefix e) under)) ∙ none

  at : (b : Bool) → others_under held d local_as asn ≡ b → true ≡ b
  at true e = refl
  at false e = absurd (true≢false (sym other ∙ ap (is_other_route local_as asn) is ∙ unlike (best_at held q)
      (best_keeps (λ r. is_other local_as asn r.1 ≡ false) (map candidate (filter (λ r. is_same_prefix q r.0.prefix) held)) None tt
      (kept_each (λ r. is_other local_as asn r.1 ≡ false) (λ r. is_same_prefix q r.0.prefix) held
      (each_weaker (λ r. (is_strictly_under d r.0.prefix && is_other local_as asn r.1) ≡ false) (λ r. is_same_prefix q r.0.prefix ≡ true
      → is_other local_as asn r.1 ≡ false) same held
      (none_each (λ r. is_strictly_under d r.0.prefix && is_other local_as asn r.1) held e))))))

-- what d covers and what doesn't cover d lies strictly under d
pub strictly : (d q : Prefix) → covers d q ≡ true → covers q d ≡ false → is_strictly_under d q ≡ true
strictly d q over apart = and_both (covers d q) (not (is_same_prefix d q)) over (at (is_same_prefix d q) refl) where
  at : (b : Bool) → is_same_prefix d q ≡ b → not b ≡ true
  at false e = refl
  at true e = absurd (true≢false (sym (covers_self d) ∙ alike_covers d q d e ∙ apart))
