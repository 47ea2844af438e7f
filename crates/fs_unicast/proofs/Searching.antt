-- The search for a route with another neighbouring AS, from turn to turn.
use Rattle.fs_unicast.proofs.Words.{ℕ, ◌≡◌, ◌+◌, ◌<◌, ◌≤◌, refl, sym, ap, subst, ◌∙◌, Bool, true, false, true≢false, cond, not, ◌&&◌, ◌||◌, List, []}
use Rattle.fs_unicast.proofs.Words.{◌∷◌, find, map-id, Option, Some, None, is_le, is_lt, arith, AllByRecursion, list_any, IsStrictlySortedBy, keys_of}
use Rattle.fs_unicast.proofs.Words.{and_both, and_first, and_second, each, each_weaker, each_both, each_none, any_each, Path, Place, neighbour}
use Rattle.fs_unicast.proofs.Words.{is_other, Route, place_cmp, neighbour_of, is_same, is_within, is_inside, lies_between, are_parted, IsPartedFrom}
use Rattle.fs_unicast.proofs.Words.{IsPartedAfter, IsParted}
use Rattle.fs_unicast.proofs.PlaceOrder.{lt, le, lies_above, lies_upto, below_upto, falsified, upto_below, upto_upto, lt_le, below_itself}
use Rattle.fs_unicast.proofs.PlaceOrder.{upto_itself}
use Rattle.fs_unicast.proofs.Finding.{found_each, found_passes, none_found, any_found, after_found}
use Rattle.fs_unicast.proofs.Parting.{same_is}

abbrev pub count : (Place → Bool) → List Place → ℕ
count p [] = 0
count p (t ∷ ts) = cond (p t) 1 0 + count p ts

no_more : (p q : Place → Bool) → ((t : Place) → p t ≡ true → q t ≡ true) → (ts : List Place) → count p ts ≤ count q ts
no_more p q h [] = omega arith
no_more p q h (t ∷ ts) = at (p t) (q t) (h t) (no_more p q h ts) where
  at : (a b : Bool) → (a ≡ true → b ≡ true) → count p ts ≤ count q ts → cond a 1 0 + count p ts ≤ cond b 1 0 + count q ts
  at true true f ih = omega arith
  at true false f ih = absurd (true≢false (sym (f refl)))
  at false true f ih = omega arith
  at false false f ih = omega arith

fewer : (p q : Place → Bool) → ((t : Place) → p t ≡ true → q t ≡ true) → (ts : List Place) → list_any (λ t. q t && not (p t)) ts ≡ true
    → count p ts < count q ts
fewer p q h [] k = absurd (true≢false (sym k))
fewer p q h (t ∷ ts) k = at (p t) (q t) (h t) (no_more p q h ts) (fewer p q h ts) k where
  at : (a b : Bool) → (a ≡ true → b ≡ true) → count p ts ≤ count q ts → (list_any (λ t. q t && not (p t)) ts ≡ true → count p ts < count q ts)
      → ((b && not a) || list_any (λ t. q t && not (p t)) ts) ≡ true → cond a 1 0 + count p ts < cond b 1 0 + count q ts
  at true true f le ih l = let m : count p ts < count q ts = ih l in omega arith
  at true false f le ih l = absurd (true≢false (sym (f refl)))
  at false true f le ih l = omega arith
  at false false f le ih l = let m : count p ts < count q ts = ih l in omega arith

-- the turn that is found is one that the search has passed then
passed : (turns : List Place) (from g high t : Place) → is_le (place_cmp from g) ≡ true
    → find (λ u. is_lt (place_cmp g u) && is_lt (place_cmp u high)) turns ≡ Some t
    → count (λ u. is_lt (place_cmp t u)) turns < count (λ u. is_lt (place_cmp from u)) turns
passed turns from g high t h k =
    fewer (λ u. is_lt (place_cmp t u)) (λ u. is_lt (place_cmp from u)) (λ u l. below_upto from t u below (lt_le (place_cmp t u) l)) turns
    (any_found (λ u. is_lt (place_cmp g u) && is_lt (place_cmp u high)) (λ u. is_lt (place_cmp from u) && not (is_lt (place_cmp t u))) turns t k
    (and_both (is_lt (place_cmp from t)) (not (is_lt (place_cmp t t))) below (ap not (below_itself t)))) where
      below : is_lt (place_cmp from t) ≡ true
      below = upto_below from g t h (and_first (is_lt (place_cmp g t)) (is_lt (place_cmp t high))
          (found_passes (λ u. is_lt (place_cmp g u) && is_lt (place_cmp u high)) turns t k))

-- a path with another neighbouring AS than one that has this
unlike : (local_as : ℕ) (asn : Option ℕ) (p q : Path) → is_other local_as asn p ≡ false → is_other local_as asn q ≡ true
    → is_same (neighbour p.segments) (neighbour q.segments) ≡ false
unlike local_as None p q h k = absurd (true≢false h)
unlike local_as (Some asn) p q h k = at (is_same (neighbour p.segments) (neighbour q.segments)) refl where
  alike : neighbour p.segments ≡ neighbour q.segments → is_other local_as (Some asn) p ≡ is_other local_as (Some asn) q
  alike e = cc

  at : (b : Bool) → is_same (neighbour p.segments) (neighbour q.segments) ≡ b → b ≡ false
  at true e = absurd (true≢false (sym k ∙ (sym (alike (same_is (neighbour p.segments) (neighbour q.segments) e)) ∙ h)))
  at false e = refl

module _ (low high : Place) (local_as : ℕ) (asn : Option ℕ) (held : List Route) where
  -- a route that is searched for
  abbrev pub is_sought : Route → Bool
  is_sought r = is_within low high r.0 && is_other local_as asn r.1

  -- what is searched for lies from here on
  abbrev IsFrom : Place → Route → Type 0
  IsFrom x r = is_sought r ≡ true → le x r.0

  pub record IsAhead (from : Place) : Type 0 where
    pub bound : is_le (place_cmp low from) ≡ true
    pub ahead : AllByRecursion (λ r. is_sought r ≡ true → is_le (place_cmp from r.0) ≡ true) held

  within : (x y : Place) → le x y → lt y high → is_within x high y ≡ true
  within x y h k = and_both (is_le (place_cmp x y)) (is_lt (place_cmp y high)) h k

  within_from : (x y : Place) → is_within x high y ≡ true → le x y
  within_from x y h = and_first (is_le (place_cmp x y)) (is_lt (place_cmp y high)) h

  within_below : (x y : Place) → is_within x high y ≡ true → lt y high
  within_below x y h = and_second (is_le (place_cmp x y)) (is_lt (place_cmp y high)) h

  sought_within : (r : Route) → is_sought r ≡ true → is_within low high r.0 ≡ true
  sought_within r h = and_first (is_within low high r.0) (is_other local_as asn r.1) h

  below_high : (r : Route) → is_sought r ≡ true → lt r.0 high
  below_high r h = within_below low r.0 (sought_within r h)

  sought_other : (r : Route) → is_sought r ≡ true → is_other local_as asn r.1 ≡ true
  sought_other r h = and_second (is_within low high r.0) (is_other local_as asn r.1) h

  pub search_starts : IsAhead low
  search_starts = record { bound = upto_itself low; ahead = each (IsFrom low) (λ r h. within_from low r.0 (sought_within r h)) held }

  -- nothing is left
  pub search_ends : (from : Place) → IsAhead from → find (λ r. is_within from high r.0) held ≡ None → false ≡ list_any is_sought held
  search_ends from h k = sym (each_none is_sought held (each_both (IsFrom from) (λ r. is_within from high r.0 ≡ false) (λ r. is_sought r ≡ false)
      (λ r ahead no. falsified (is_sought r) (λ yes. sym (within from r.0 (ahead yes) (below_high r yes)) ∙ no)) held h.ahead
      (none_found (λ r. is_within from high r.0) held k)))

  -- what is found is searched for
  pub search_hits : (from : Place) (g : Route) → IsAhead from → find (λ r. is_within from high r.0) held ≡ Some g → is_other local_as asn g.1 ≡ true
      → true ≡ list_any is_sought held
  search_hits from g h k other = sym (any_found (λ r. is_within from high r.0) is_sought held g k (and_both (is_within low high g.0) (is_other local_as asn g.1)
      (within low g.0 (upto_upto low from g.0 h.bound (within_from from g.0 here)) (within_below from g.0 here)) other)) where
        here : is_within from high g.0 ≡ true
        here = found_passes (λ r. is_within from high r.0) held g k

  -- What is found isn't: the first turn behind it is looked up.
  module _ (turns : List Place) (from : Place) (g : Route) (sorted : IsStrictlySortedBy place_cmp (keys_of held)) (parted : IsParted turns held)
      (h : IsAhead from)
      (k : find (λ r. is_within from high r.0) held ≡ Some g) (same : is_other local_as asn g.1 ≡ false) where
    abbrev inside : Place → Bool
    inside u = is_inside g.0 high u

    inside_of : (u : Place) → lt g.0 u → lt u high → inside u ≡ true
    inside_of u l m = and_both (is_lt (place_cmp g.0 u)) (is_lt (place_cmp u high)) l m

    from_low : le from g.0
    from_low = within_from from g.0 (found_passes (λ r. is_within from high r.0) held g k)

    abbrev IsBehindTurn : Route → Type 0
    IsBehindTurn r = is_sought r ≡ true → are_parted turns g.0 r.0 ≡ true

    abbrev IsLater : Route → Type 0
    IsLater r = is_sought r ≡ true → lt g.0 r.0

    -- what is searched for lies behind the route, as it isn't alike, and so behind a turn
    later_than : AllByRecursion (λ r. is_within from high r.0 ≡ true → IsLater r) held
    later_than = after_found place_cmp (λ r. r.0) (λ r. is_within from high r.0) IsLater held sorted g k
        (λ yes. absurd (true≢false (sym (sought_other g yes) ∙ same))) (λ r less _. ap is_lt less)

    behind_within : AllByRecursion (λ r. is_within from high r.0 ≡ true → IsBehindTurn r) held
    behind_within = each_both (λ r. is_within from high r.0 ≡ true → IsLater r) (IsPartedFrom turns g.0 (neighbour_of g))
        (λ r. is_within from high r.0 ≡ true → IsBehindTurn r)
        (λ r f part here yes. part (f here yes) (unlike local_as asn g.1 r.1 same (sought_other r yes))) held later_than
        (found_each (λ r. is_within from high r.0) (λ r. IsPartedAfter turns held r.0 (neighbour_of r)) held g k parted)

    behind : AllByRecursion IsBehindTurn held
    behind = each_both (IsFrom from) (λ r. is_within from high r.0 ≡ true
        → IsBehindTurn r) IsBehindTurn (λ r ahead f yes. f (within from r.0 (ahead yes) (below_high r yes)) yes) held h.ahead behind_within

    -- of a route that is searched for, a turn lies inside
    turn_inside : (r : Route) (u : Place) → is_sought r ≡ true → lies_between g.0 r.0 u ≡ true → inside u ≡ true
    turn_inside r u sought lies = inside_of u (lies_above g.0 r.0 u lies) (upto_below u r.0 high (lies_upto g.0 r.0 u lies) (below_high r sought))

    -- without a turn there is none
    pub search_stops : find (is_inside g.0 high) turns ≡ None → false ≡ list_any is_sought held
    search_stops l = sym (each_none is_sought held
        (each_weaker IsBehindTurn (λ r. is_sought r ≡ false) (λ r f. falsified (is_sought r) (λ yes. nothing r yes (f yes))) held behind)) where
          nothing : (r : Route) → is_sought r ≡ true → are_parted turns g.0 r.0 ≡ true → true ≡ false
          nothing r sought part = any_each (lies_between g.0 r.0) (λ u. inside u ≡ false) (true ≡ false) turns part (none_found inside turns l)
              (λ u lies none. sym (turn_inside r u sought lies) ∙ none)

    -- else fewer turns are left behind the first one
    pub search_falls : (t : Place) → find (is_inside g.0 high) turns ≡ Some t
        → count (λ u. is_lt (place_cmp t u)) turns < count (λ u. is_lt (place_cmp from u)) turns
    search_falls t l = passed turns from g.0 high t from_low l

    -- and the search goes on there
    pub search_turns : IsStrictlySortedBy place_cmp turns → (t : Place) → find (is_inside g.0 high) turns ≡ Some t → IsAhead t
    search_turns ordered t l = record {
      bound = upto_upto low from t h.bound
          (lt_le (place_cmp from t) (upto_below from g.0 t from_low
          (and_first (is_lt (place_cmp g.0 t)) (is_lt (place_cmp t high)) (found_passes inside turns t l))));
      ahead = each_weaker IsBehindTurn (IsFrom t) (λ r f yes. reached r yes (f yes)) held behind;
    } where
      least : AllByRecursion (λ u. inside u ≡ true → le t u) turns
      least = after_found place_cmp (λ u. u) inside (le t) turns (subst (IsStrictlySortedBy place_cmp) (sym (map-id turns)) ordered) t l
          (upto_itself t) (λ u less. ap is_le less)

      reached : (r : Route) → is_sought r ≡ true → are_parted turns g.0 r.0 ≡ true → le t r.0
      reached r sought part = any_each (lies_between g.0 r.0) (λ u. inside u ≡ true → le t u) (le t r.0) turns part least
          (λ u lies f. upto_upto t u r.0 (f (turn_inside r u sought lies)) (lies_upto g.0 r.0 u lies))
