-- Turns that are taken away: from between two routes where it parts no others, and from the gap that a route leaves.
use Rattle.fs_unicast.proofs.Words.{ℕ, ◌≡◌, ◌⊎◌, inl, inr, refl, sym, ap, subst, ◌∙◌, Bool, true, false, true≢false, cond, not, ◌&&◌, ◌||◌, List, []}
use Rattle.fs_unicast.proofs.Words.{◌∷◌, find, filter, map-id, Option, Some, None, Ordering, Less, Equal, Greater, is_eq, is_le, is_lt, IfSome}
use Rattle.fs_unicast.proofs.Words.{AllByRecursion, list_any, list_all, IsStrictlySortedBy, is_at, range_contains, Included, Excluded, keys_of}
use Rattle.fs_unicast.proofs.Words.{remove_entry, lookup, ap₂, same_Some, or_first, or_second, false_from, each, each_weaker, each_both, each_remove}
use Rattle.fs_unicast.proofs.Words.{any_each, all_on, find_on, equal_of_is_eq, Path, Place, neighbour, Route, place_cmp, neighbour_of, is_same}
use Rattle.fs_unicast.proofs.Words.{is_before, is_after, is_at_or_after, lies_between, are_parted, is_alone, are_alike, names, without, find_last}
use Rattle.fs_unicast.proofs.Words.{PartsAt, IsPartedFrom, IsPartedTo, IsPartedAfter, IsPartedBefore, IsParted, IsLastUpto}
use Rattle.fs_unicast.proofs.PlaceOrder.{lt, le, lies_in, lies_above, lies_upto, apart, never, exact_place, below_upto, upto_upto, lt_le, upto_itself}
use Rattle.fs_unicast.proofs.PlaceOrder.{below_not_upto, equal_upto, equal_back}
use Rattle.fs_unicast.proofs.Finding.{found_each, found_passes, last_each, last_passes, no_last, after_found, before_last}
use Rattle.fs_unicast.proofs.Parting.{same_is, same_itself, wider, Fore, Aft, fores, afts}
use Rattle.std.{specs.Set.{remove_key}, proofs.lemmas.Map.{none_passes_from_lookup}}

any_removed : (b e : Place → Bool) (ts : List Place) → list_any b (remove_key e ts) ≡ true → list_any b ts ≡ true
any_removed b e [] h = h
any_removed b e (t ∷ ts) h = at (e t) (any_removed b e ts) h where
  at : (c : Bool) → (list_any b (remove_key e ts) ≡ true → list_any b ts ≡ true) → list_any b (cond c ts (t ∷ remove_key e ts)) ≡ true
      → (b t || list_any b ts) ≡ true
  at true ih k = or_second (b t) (list_any b ts) k
  at false ih k = or_one (b t) (list_any b (remove_key e ts)) (list_any b ts) ih k where
    or_one : (x y z : Bool) → (y ≡ true → z ≡ true) → (x || y) ≡ true → (x || z) ≡ true
    or_one true y z f g = refl
    or_one false y z f g = f g

-- one that passes and isn't the one removed stays
pub other_stays : (b e : Place → Bool) (ts : List Place) → list_all (λ u. not (b u) || e u) ts ≡ false → list_any b (remove_key e ts) ≡ true
other_stays b e [] h = absurd (true≢false h)
other_stays b e (t ∷ ts) h = at (b t) (e t) refl (other_stays b e ts) h where
  at : (c d : Bool) → b t ≡ c → (list_all (λ u. not (b u) || e u) ts ≡ false → list_any b (remove_key e ts) ≡ true)
      → ((not c || d) && list_all (λ u. not (b u) || e u) ts) ≡ false → list_any b (cond d ts (t ∷ remove_key e ts)) ≡ true
  at true true f ih k = any_removed b e ts (ih k)
  at true false f ih k = or_first (b t) (list_any b (remove_key e ts)) f
  at false true f ih k = any_removed b e ts (ih k)
  at false false f ih k = or_second (b t) (list_any b (remove_key e ts)) (ih k)

-- what passes and isn't removed stays
stays_removed : (b e : Place → Bool) → ((u : Place) → b u ≡ true → e u ≡ false) → (ts : List Place) → list_any b ts ≡ true → list_any b (remove_key e ts) ≡ true
stays_removed b e apart [] h = h
stays_removed b e apart (t ∷ ts) h = at (b t) (e t) refl (apart t) (stays_removed b e apart ts) h where
  at : (c d : Bool) → b t ≡ c → (c ≡ true → d ≡ false) → (list_any b ts ≡ true → list_any b (remove_key e ts) ≡ true) → (c || list_any b ts) ≡ true
      → list_any b (cond d ts (t ∷ remove_key e ts)) ≡ true
  at true true f g ih k = absurd (true≢false (g refl))
  at true false f g ih k = or_first (b t) (list_any b (remove_key e ts)) f
  at false true f g ih k = k
  at false false f g ih k = or_second (b t) (list_any b (remove_key e ts)) (ih k)

-- the turns without one
abbrev pub rest_of : List Place → Place → List Place
rest_of turns t = remove_key (is_at (place_cmp t)) turns

-- what the turn doesn't lie between stays parted without it
pub elsewhere : (turns : List Place) (t x y : Place) → (lies_between x y t ≡ true → ⊥) → are_parted turns x y ≡ true → are_parted (rest_of turns t) x y ≡ true
elsewhere turns t x y out = stays_removed (lies_between x y) (is_at (place_cmp t))
    (λ u lies. false_from (is_at (place_cmp t) u) (λ same. out (moved u lies (equal_of_is_eq (place_cmp t u) same)))) turns where
      moved : (u : Place) → lies_between x y u ≡ true → place_cmp t u ≡ Equal → lies_between x y t ≡ true
      moved u lies same = lies_in x y t
          (below_upto x u t (lies_above x y u lies) (equal_back t u same))
          (upto_upto t u y (equal_upto t u same) (lies_upto x y u lies))

-- another turn at a place parts there still
pub still_here : (turns : List Place) (z t : Place) → PartsAt turns z → lt z t → PartsAt (rest_of turns t) z
still_here turns z t here past x y lies = wider (rest_of turns t) x x z y (upto_itself x) (lies_upto x y z lies)
    (elsewhere turns t x z (λ k. never z t past (lies_upto x z t k))
    (here x z (lies_in x z z (lies_above x y z lies) (upto_itself z))))

-- two routes have the same neighbouring AS, one of them isn't there, or they are parted
abbrev pub IsClosed : List Place → Option Route → Option Route → Type 0
IsClosed turns None p = Unit {0}
IsClosed turns (Some b) None = Unit {0}
IsClosed turns (Some b) (Some a) = is_same (neighbour_of b) (neighbour_of a) ≡ false → are_parted turns b.0 a.0 ≡ true

-- A turn between the last route before a place and the first one from there on.
module _ (turns : List Place) (held : List Route) (z t : Place) (o p : Option Route) (sorted : IsStrictlySortedBy place_cmp (keys_of held))
    (parted : IsParted turns held)
    (last : find_last (is_before z) held ≡ o) (first : find (is_at_or_after z) held ≡ p)
    (low : IfSome o (λ b. lt b.0 t)) (high : IfSome p (λ a. le t a.0)) where
  abbrev rest : List Place
  rest = rest_of turns t

  fore_z : AllByRecursion (λ x. lt x.0 z → Fore turns o x) held
  fore_z = fores turns held (is_before z) sorted parted o last

  aft_z : AllByRecursion (λ y. le z y.0 → Aft turns p y) held
  aft_z = afts turns held (is_at_or_after z) sorted parted p first

  -- the routes before the turn are those before the place
  fore : AllByRecursion (λ x. lt x.0 t → Fore turns o x) held
  fore = each_both (λ x. lt x.0 z → Fore turns o x) (λ y. le z y.0 → Aft turns p y) (λ x. lt x.0 t
      → Fore turns o x) (λ x f g below. at x f g below (apart x.0 z)) held fore_z aft_z where
        past : (p : Option Route) → IfSome p (λ a. le t a.0) → (x : Route) → Aft turns p x → lt x.0 t → ⊥
        past None h x a below = a
        past (Some r) h x a below = never x.0 t below (upto_upto t r.0 x.0 h a.0)

        at : (x : Route) → (lt x.0 z → Fore turns o x) → (le z x.0 → Aft turns p x) → lt x.0 t → lt x.0 z ⊎ le z x.0 → Fore turns o x
        at x f g below (inl k) = f k
        at x f g below (inr k) = absurd (past p high x (g k) below)

  -- and those from the turn on are those from the place on
  aft : AllByRecursion (λ y. le t y.0 → Aft turns p y) held
  aft = each_both (λ x. lt x.0 z → Fore turns o x) (λ y. le z y.0 → Aft turns p y) (λ y. le t y.0
      → Aft turns p y) (λ y f g above. at y f g above (apart y.0 z)) held fore_z aft_z where
        past : (o : Option Route) → IfSome o (λ b. lt b.0 t) → (y : Route) → Fore turns o y → le t y.0 → ⊥
        past None h y f above = f
        past (Some r) h y f above = never r.0 t h (upto_upto t y.0 r.0 above f.0)

        at : (y : Route) → (lt y.0 z → Fore turns o y) → (le z y.0 → Aft turns p y) → le t y.0 → lt y.0 z ⊎ le z y.0 → Aft turns p y
        at y f g above (inl k) = absurd (past o low y (f k) above)
        at y f g above (inr k) = g k

  over : (x y : Route) → is_same (neighbour_of x) (neighbour_of y) ≡ false → (o p : Option Route) → IfSome o (λ b. lt b.0 t)
      → IfSome p (λ a. le t a.0) → IsClosed rest o p
      → Fore turns o x → Aft turns p y → are_parted rest x.0 y.0 ≡ true
  over x y other None p l h c f g = absurd f
  over x y other (Some b) None l h c f g = absurd g
  over x y other (Some b) (Some a) l h c f g = at (is_same (neighbour_of b) (neighbour_of a)) refl (is_same (neighbour_of x) (neighbour_of b)) refl where
    at : (d : Bool) → is_same (neighbour_of b) (neighbour_of a) ≡ d → (e : Bool) → is_same (neighbour_of x) (neighbour_of b) ≡ e
        → are_parted rest x.0 y.0 ≡ true
    at false d e k = wider rest x.0 b.0 a.0 y.0 f.0 g.0 (c d)
    at true d false k = wider rest x.0 x.0 b.0 y.0 (upto_itself x.0) (lt_le (place_cmp b.0 y.0) (below_upto b.0 t y.0 l (upto_upto t a.0 y.0 h g.0)))
        (elsewhere turns t x.0 b.0 (λ lies. never b.0 t l (lies_upto x.0 b.0 t lies)) (f.1 k))
    at true d true k = wider rest x.0 a.0 y.0 y.0 (upto_upto x.0 b.0 a.0 f.0 (lt_le (place_cmp b.0 a.0) (below_upto b.0 t a.0 l h))) (upto_itself y.0)
        (elsewhere turns t a.0 y.0 (λ lies. never a.0 t (lies_above a.0 y.0 t lies) h)
        (g.1 (subst (λ n. is_same n (neighbour_of y) ≡ false) (same_is (neighbour_of x) (neighbour_of b) k
        ∙ same_is (neighbour_of b) (neighbour_of a) d) other)))

  pub parted_without : IsClosed (rest_of turns t) o p → IsParted (rest_of turns t) held
  parted_without closed = each_both (λ x. IsPartedAfter turns held x.0 (neighbour_of x)) (λ x. lt x.0 t
      → Fore turns o x) (λ x. IsPartedAfter rest held x.0 (neighbour_of x))
      (λ x part f. each_both (IsPartedFrom turns x.0 (neighbour_of x)) (λ y. le t y.0 → Aft turns p y) (IsPartedFrom rest x.0 (neighbour_of x))
      (λ y part g. at x y part f g) held part aft) held parted fore where
        at : (x y : Route) → IsPartedFrom turns x.0 (neighbour_of x) y → (lt x.0 t → Fore turns o x) → (le t y.0 → Aft turns p y)
            → IsPartedFrom rest x.0 (neighbour_of x) y
        at x y part f g below other = by (lies_between x.0 y.0 t) refl where
          by : (b : Bool) → lies_between x.0 y.0 t ≡ b → are_parted rest x.0 y.0 ≡ true
          by true e = over x y other o p low high closed (f (lies_above x.0 y.0 t e)) (g (lies_upto x.0 y.0 t e))
          by false e = elsewhere turns t x.0 y.0 (λ lies. true≢false (sym lies ∙ e)) (part below other)

-- a turn stands at the place, so the one at the first route behind it goes
pub parted_moved : (turns : List Place) (held : List Route) (z : Place) (o : Option Route) (s : Route) → IsStrictlySortedBy place_cmp (keys_of held)
    → IsParted turns held
    → find_last (is_before z) held ≡ o → find (is_at_or_after z) held ≡ Some s → lt z s.0 → PartsAt turns z → IsParted (rest_of turns s.0) held
parted_moved turns held z o s sorted parted last first past here =
    parted_without turns held z s.0 o (Some s) sorted parted last first (low o last) (upto_itself s.0) (closed o last) where
      low : (o : Option Route) → find_last (is_before z) held ≡ o → IfSome o (λ b. lt b.0 s.0)
      low None e = tt
      low (Some b) e = below_upto b.0 z s.0 (last_passes (is_before z) held b e) (lt_le (place_cmp z s.0) past)

      closed : (o : Option Route) → find_last (is_before z) held ≡ o → IsClosed (rest_of turns s.0) o (Some s)
      closed None e = tt
      closed (Some b) e = λ _. still_here turns z s.0 here past b.0 s.0 (lies_in b.0 s.0 z (last_passes (is_before z) held b e) (lt_le (place_cmp z s.0) past))

-- a turn of which the routes beside it need none
pub parted_idle : (turns : List Place) (held : List Route) (t : Place) (o p : Option Route) → IsStrictlySortedBy place_cmp (keys_of held) → IsParted turns held
    → find_last (is_before t) held ≡ o → find (is_at_or_after t) held ≡ p → IsClosed (rest_of turns t) o p → IsParted (rest_of turns t) held
parted_idle turns held t o p sorted parted last first = parted_without turns held t t o p sorted parted last first (low o last) (high p first) where
  low : (o : Option Route) → find_last (is_before t) held ≡ o → IfSome o (λ b. lt b.0 t)
  low None e = tt
  low (Some b) e = last_passes (is_before t) held b e

  high : (p : Option Route) → find (is_at_or_after t) held ≡ p → IfSome p (λ a. le t a.0)
  high None e = tt
  high (Some a) e = found_passes (is_at_or_after t) held a e

-- the turns between two places, one after the other
pub alone_between : (turns found : List Place) (x y t : Place) → found ≡ filter (range_contains place_cmp (Excluded x) (Included y)) turns
    → list_all (λ u. is_eq (place_cmp t u)) found ≡ is_alone turns x y t
alone_between turns found x y t e = ap (list_all (λ u. is_eq (place_cmp t u))) e
    ∙ all_filter (range_contains place_cmp (Excluded x) (Included y)) (λ u. is_eq (place_cmp t u)) turns
    ∙ all_on (λ u. not (range_contains place_cmp (Excluded x) (Included y) u) || is_eq (place_cmp t u))
    (λ u. not (lies_between x y u) || is_eq (place_cmp t u)) turns
    (each (λ u. (not (range_contains place_cmp (Excluded x) (Included y) u) || is_eq (place_cmp t u)) ≡ (not (lies_between x y u) || is_eq (place_cmp t u)))
    (λ u. ap (λ b. not (is_lt (place_cmp x u) && b) || is_eq (place_cmp t u)) (not_past u)) turns) where
      not_not : (b c : Bool) → c ≡ not b → not c ≡ b
      not_not true c h = ap not h
      not_not false c h = ap not h

      not_past : (u : Place) → not (is_lt (place_cmp y u)) ≡ is_le (place_cmp u y)
      not_past u = not_not (is_le (place_cmp u y)) (is_lt (place_cmp y u)) (below_not_upto y u)

      all_filter : (p q : Place → Bool) (ts : List Place) → list_all q (filter p ts) ≡ list_all (λ t. not (p t) || q t) ts
      all_filter p q [] = refl
      all_filter p q (t ∷ ts) = at (p t) (all_filter p q ts) where
        at : (b : Bool) → list_all q (filter p ts) ≡ list_all (λ t. not (p t) || q t) ts
            → list_all q (cond b (t ∷ filter p ts) (filter p ts)) ≡ ((not b || q t) && list_all (λ t. not (p t) || q t) ts)
        at true ih = ap (λ b. q t && b) ih
        at false ih = ih

-- the last turn up to a place, as a look-up finds it
pub last_is : (turns : List Place) (z : Place) (o : Option Place) → IsStrictlySortedBy place_cmp turns
    → o ≡ find_last (λ t. is_le (place_cmp t z)) turns → IsLastUpto turns z o
last_is turns z None sorted e = no_last (λ t. is_le (place_cmp t z)) turns (sym e)
last_is turns z (Some t) sorted e = (
  last_passes (λ t. is_le (place_cmp t z)) turns t (sym e),
  before_last place_cmp (λ t. t) (λ t. is_le (place_cmp t z)) (λ u. le u t) turns (subst (IsStrictlySortedBy place_cmp) (sym (map-id turns)) sorted) t
      (sym e) (upto_itself t) (λ y less. ap is_le less),
)

-- what holds of each route holds of the one that a look-up finds
looked_up : (P : Route → Type 0) (held : List Route) (z : Place) (path : Path) → lookup (is_at (place_cmp z)) held ≡ Some path → AllByRecursion P held
    → P (z, path)
looked_up P [] z path h all = cc
looked_up P (x ∷ held) z path h all = at (is_eq (place_cmp z x.0)) refl h (λ k. looked_up P held z path k all.1) where
  at : (b : Bool) → is_eq (place_cmp z x.0) ≡ b → cond b (Some x.1) (lookup (is_at (place_cmp z)) held) ≡ Some path
      → (lookup (is_at (place_cmp z)) held ≡ Some path → P (z, path)) → P (z, path)
  at true e k ih = subst P (ap₂ (λ (q : Place) (v : Path). (q, v)) (sym (exact_place z x.0 e)) (same_Some x.1 path k)) all.0
  at false e k ih = ih k

-- A route is taken away: the others stay parted from one another and from its place.
module _ (turns : List Place) (held : List Route) (z : Place) (path : Path) (there : lookup (is_at (place_cmp z)) held ≡ Some path)
    (parted : IsParted turns held) where
  abbrev left : List Route
  left = remove_entry (is_at (place_cmp z)) held

  pub parted_left : IsParted turns (remove_entry (is_at (place_cmp z)) held)
  parted_left = each_remove (λ r. IsPartedAfter turns left r.0 (neighbour_of r)) (is_at (place_cmp z)) held
      (each_weaker (λ r. IsPartedAfter turns held r.0 (neighbour_of r)) (λ r. IsPartedAfter turns left r.0 (neighbour_of r))
      (λ r. each_remove (IsPartedFrom turns r.0 (neighbour_of r)) (is_at (place_cmp z)) held) held parted)

  pub before_left : IsPartedBefore turns (remove_entry (is_at (place_cmp z)) held) z (neighbour path.segments)
  before_left = each_remove (IsPartedTo turns z (neighbour path.segments)) (is_at (place_cmp z)) held
      (each_weaker (λ r. IsPartedAfter turns held r.0 (neighbour_of r)) (IsPartedTo turns z (neighbour path.segments))
      (λ r. looked_up (IsPartedFrom turns r.0 (neighbour_of r)) held z path there) held parted)

  pub after_left : IsPartedAfter turns (remove_entry (is_at (place_cmp z)) held) z (neighbour path.segments)
  after_left = each_remove (IsPartedFrom turns z (neighbour path.segments)) (is_at (place_cmp z)) held
      (looked_up (λ r. IsPartedAfter turns held r.0 (neighbour_of r)) held z path there parted)

-- No route stands at the place, where one of another neighbouring AS than those beside it stood.
module _ (turns : List Place) (held : List Route) (z : Place) (asn : Option ℕ) (sorted : IsStrictlySortedBy place_cmp (keys_of held))
    (free : lookup (is_at (place_cmp z)) held ≡ None)
    (parted : IsParted turns held) (before : IsPartedBefore turns held z asn) (after : IsPartedAfter turns held z asn)
    (o p : Option Route) (last : find_last (is_before z) held ≡ o) (first : find (is_after z) held ≡ p) (h : names asn o ≡ false)
    (k : names asn p ≡ false) where
  first_from : find (is_at_or_after z) held ≡ p
  first_from = find_on (is_at_or_after z) (is_after z) held
      (each_weaker (λ r. is_eq (place_cmp z r.0) ≡ false) (λ r. is_le (place_cmp z r.0) ≡ is_lt (place_cmp z r.0))
      (λ r. unlike (place_cmp z r.0)) held (none_passes_from_lookup (is_at (place_cmp z)) held free)) ∙ first where
        unlike : (c : Ordering) → is_eq c ≡ false → is_le c ≡ is_lt c
        unlike Less e = refl
        unlike Equal e = e
        unlike Greater e = refl

  -- the last turn up to the place lies behind the route before
  front : (o : Option Route) → find_last (is_before z) held ≡ o → names asn o ≡ false → (t : Place) → IsLastUpto turns z (Some t) → IfSome o (λ b. lt b.0 t)
  front None e h t l = tt
  front (Some b) e h t l = any_each (lies_between b.0 z) (λ u. le u z → le u t) (lt b.0 t) turns
      (last_each (is_before z) (IsPartedTo turns z asn) held b e before (last_passes (is_before z) held b e) h) l.1
      (λ u lies f. below_upto b.0 u t (lies_above b.0 z u lies) (f (lies_upto b.0 z u lies)))

  below_z : (o : Option Route) → find_last (is_before z) held ≡ o → IfSome o (λ b. lt b.0 z)
  below_z None e = tt
  below_z (Some b) e = last_passes (is_before z) held b e

  above_z : (p : Option Route) → find (is_after z) held ≡ p → (t : Place) → le t z → IfSome p (λ a. le t a.0)
  above_z None e t l = tt
  above_z (Some a) e t l = upto_upto t z a.0 l (lt_le (place_cmp z a.0) (found_passes (is_after z) held a e))

  -- a turn lies between the place and the route after, also without the last one up to the place
  behind : (a : Route) → find (is_after z) held ≡ Some a → is_same (neighbour_of a) asn ≡ false → are_parted turns z a.0 ≡ true
  behind a e k = found_each (is_after z) (IsPartedFrom turns z asn) held a e after (found_passes (is_after z) held a e)
      (false_from (is_same asn (neighbour_of a))
      (λ same. true≢false (sym (subst (λ n. is_same n asn ≡ true) (same_is asn (neighbour_of a) same) (same_itself asn)) ∙ k)))

  behind_without : (w : Option Place) → IsLastUpto turns z w → (a : Route) → find (is_after z) held ≡ Some a → is_same (neighbour_of a) asn ≡ false
      → are_parted (without turns w) z a.0 ≡ true
  behind_without None l a e k = behind a e k
  behind_without (Some t) l a e k = elsewhere turns t z a.0 (λ lies. never z t (lies_above z a.0 t lies) l.0) (behind a e k)

  pub without_last : (w : Option Place) → IsLastUpto turns z w → IsParted (without turns w) held
  without_last None l = parted
  without_last (Some t) l = parted_without turns held z t o p sorted parted last first_from (front o last h t l) (above_z p first t l.0)
      (closed o p (below_z o last) first k) where
        closed : (o p : Option Route) → IfSome o (λ b. lt b.0 z) → find (is_after z) held ≡ p → names asn p ≡ false → IsClosed (rest_of turns t) o p
        closed None p b e k = tt
        closed (Some b) None m e k = tt
        closed (Some b) (Some a) m e k =
            λ _. wider (rest_of turns t) b.0 z a.0 a.0 (lt_le (place_cmp b.0 z) m) (upto_itself a.0) (behind_without (Some t) l a e k)

  -- the routes beside the place are alike, and the first turn behind it goes too
  pub without_next : (w : Option Place) → IsLastUpto turns z w → are_alike o p ≡ true → IsStrictlySortedBy place_cmp (without turns w)
      → (next : Option Place) → find (λ t. is_lt (place_cmp z t)) (without turns w) ≡ next → IsParted (without (without turns w) next) held
  without_next w l alike places None e = without_last w l
  without_next w l alike places (Some t) e =
      parted_without (without turns w) held z t o p sorted (without_last w l) last first_from (low o (below_z o last)) (high p first k)
      (closed o p alike) where
        past : lt z t
        past = found_passes (λ t. is_lt (place_cmp z t)) (without turns w) t e

        low : (o : Option Route) → IfSome o (λ b. lt b.0 z) → IfSome o (λ b. lt b.0 t)
        low None m = tt
        low (Some b) m = below_upto b.0 z t m (lt_le (place_cmp z t) past)

        high : (p : Option Route) → find (is_after z) held ≡ p → names asn p ≡ false → IfSome p (λ a. le t a.0)
        high None f k = tt
        high (Some a) f k = any_each (lies_between z a.0) (λ u. lt z u → le t u) (le t a.0) (without turns w) (behind_without w l a f k)
            (after_found place_cmp (λ t. t) (λ t. is_lt (place_cmp z t)) (λ u. le t u) (without turns w)
            (subst (IsStrictlySortedBy place_cmp) (sym (map-id (without turns w))) places) t e (upto_itself t) (λ y less. ap is_le less))
            (λ u lies f. upto_upto t u a.0 (f (lies_above z a.0 u lies)) (lies_upto z a.0 u lies))

        closed : (o p : Option Route) → are_alike o p ≡ true → IsClosed (rest_of (without turns w) t) o p
        closed None p m = tt
        closed (Some b) None m = tt
        closed (Some b) (Some a) m = λ other. absurd (true≢false (sym m ∙ other))
