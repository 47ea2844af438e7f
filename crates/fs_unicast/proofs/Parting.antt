-- Turns part the routes of other neighbouring ASes, after each change.
use Rattle.fs_unicast.proofs.Words.{◌↔◌, ℕ, ◌⊎◌, inl, inr, suc, zero, length, ◌≡◌, refl, sym, ap, subst, ◌∙◌, Bool, true, false, true≢false, ◌||◌}
use Rattle.fs_unicast.proofs.Words.{List, [], ◌∷◌, find, Option, Some, None, Ordering, Less, Equal, Greater, is_eq, is_le, is_lt, cond, option_map}
use Rattle.fs_unicast.proofs.Words.{arith, AllByRecursion, list_any, IsStrictlySortedBy, match_ordering, insert_entry, tied_itself, keys_of}
use Rattle.fs_unicast.proofs.Words.{nat_tests, or_first, or_second, each, each_weaker, each_both, any_weaker, Path, Place, neighbour, Route}
use Rattle.fs_unicast.proofs.Words.{place_cmp, neighbour_of, is_same, is_before, is_after, is_at_or_after, lies_between, are_parted, IsPartedFrom}
use Rattle.fs_unicast.proofs.Words.{IsPartedTo, IsPartedAfter, IsPartedBefore, IsParted, StaysParted, PartsAt, IsPartedAt, is_alike, stands_at}
use Rattle.fs_unicast.proofs.Words.{find_last, same_Some, equal_of_is_eq}
use Rattle.fs_unicast.proofs.PlaceOrder.{place_total, lt, le, lies_in, lies_above, lies_upto, below_upto, upto_below, upto_upto, lt_le, upto_itself}
use Rattle.fs_unicast.proofs.PlaceOrder.{equal_upto, equal_back}
use Rattle.fs_unicast.proofs.Finding.{found_each, found_passes, none_found, find_none, find_narrower, after_found, last_each, last_passes, no_last}
use Rattle.fs_unicast.proofs.Finding.{before_last}
use Rattle.{std.specs.BTreeSet.{insert_key}, fs_unicast.specs.{declared.beside.Beside.{Beside}, Turns.{AreBeside, IsPartedAround}}}

pub same_is : (a b : Option ℕ) → is_same a b ≡ true → a ≡ b
same_is None None h = refl
same_is None (Some n) h = absurd (true≢false (sym h))
same_is (Some m) None h = absurd (true≢false (sym h))
same_is (Some m) (Some n) h = let e : m ≡ n = grind (arith, nat_tests) in cc

pub same_itself : (a : Option ℕ) → is_same a a ≡ true
same_itself None = refl
same_itself (Some n) = grind (arith, nat_tests)

-- a turn between x and y lies between what is around them
pub wider : (turns : List Place) (w x y z : Place) → is_le (place_cmp w x) ≡ true → is_le (place_cmp y z) ≡ true → are_parted turns x y ≡ true
    → are_parted turns w z ≡ true
wider turns w x y z h k = any_weaker (lies_between x y) (lies_between w z) (λ t l. lies_in w z t
    (upto_below w x t h (lies_above x y t l)) (upto_upto t y z (lies_upto x y t l) k)) turns

-- what was among the keys of a set is there after an insertion
kept_inserted : (q : Place → Bool) (k : Place) (ks : List Place) → list_any q ks ≡ true → list_any q (insert_key place_cmp ks k) ≡ true
kept_inserted q k [] h = absurd (true≢false (sym h))
kept_inserted q k (x ∷ xs) h = at (place_cmp k x) (kept_inserted q k xs) h where
  later_one : (b c : Bool) → (b || c) ≡ true → (d : Bool) → (c ≡ true → d ≡ true) → (b || d) ≡ true
  later_one true c g d f = refl
  later_one false c g d f = f g

  at : (o : Ordering) → (list_any q xs ≡ true → list_any q (insert_key place_cmp xs k) ≡ true) → (q x || list_any q xs) ≡ true
      → list_any q (match_ordering o (k ∷ x ∷ xs) (x ∷ xs) (x ∷ insert_key place_cmp xs k)) ≡ true
  at Less ih g = or_second (q k) (q x || list_any q xs) g
  at Equal ih g = g
  at Greater ih g = later_one (q x) (list_any q xs) g (list_any q (insert_key place_cmp xs k)) ih

there_inserted : (q : Place → Bool) (k : Place) → q k ≡ true → ((x : Place) → place_cmp k x ≡ Equal → q x ≡ true) → (ks : List Place)
    → list_any q (insert_key place_cmp ks k) ≡ true
there_inserted q k h same [] = or_first (q k) false h
there_inserted q k h same (x ∷ xs) = at (place_cmp k x) refl (there_inserted q k h same xs) where
  at : (o : Ordering) → place_cmp k x ≡ o → list_any q (insert_key place_cmp xs k) ≡ true
      → list_any q (match_ordering o (k ∷ x ∷ xs) (x ∷ xs) (x ∷ insert_key place_cmp xs k)) ≡ true
  at Less e ih = or_first (q k) (q x || list_any q xs) h
  at Equal e ih = or_first (q x) (list_any q xs) (same x e)
  at Greater e ih = or_second (q x) (list_any q (insert_key place_cmp xs k)) ih

pub stays_inserted : (turn : Place) (old new : List Place) → new ≡ insert_key place_cmp old turn → StaysParted old new
stays_inserted turn old new e x y h = ap (list_any (lies_between x y)) e ∙ kept_inserted (lies_between x y) turn old h

pub parts_inserted : (turn : Place) (old new : List Place) → new ≡ insert_key place_cmp old turn → (x y : Place) → lies_between x y turn ≡ true
    → are_parted new x y ≡ true
parts_inserted turn old new e x y h = ap (list_any (lies_between x y)) e ∙ there_inserted (lies_between x y) turn h
    (λ t same. lies_in x y t (below_upto x turn t (lies_above x y turn h) (equal_upto turn t same))
    (upto_upto t turn y (equal_back turn t same) (lies_upto x y turn h))) old

stays_after : (old new : List Place) (held : List Route) (x : Place) (asn : Option ℕ) → StaysParted old new → IsPartedAfter old held x asn
    → IsPartedAfter new held x asn
stays_after old new held x asn stays h = each_weaker (IsPartedFrom old x asn) (IsPartedFrom new x asn) (λ r f below other. stays x r.0 (f below other)) held h

pub stays_before : (old new : List Place) (held : List Route) (y : Place) (asn : Option ℕ) → StaysParted old new → IsPartedBefore old held y asn
    → IsPartedBefore new held y asn
stays_before old new held y asn stays h = each_weaker (IsPartedTo old y asn) (IsPartedTo new y asn) (λ r f below other. stays r.0 y (f below other)) held h

pub stays_all : (old new : List Place) (held : List Route) → StaysParted old new → IsParted old held → IsParted new held
stays_all old new held stays h =
    each_weaker (λ r. IsPartedAfter old held r.0 (neighbour_of r)) (λ r. IsPartedAfter new held r.0 (neighbour_of r))
    (λ r. stays_after old new held r.0 (neighbour_of r) stays) held h

-- a turn that parts at a place does so where all stays parted
pub parts_on : (old new : List Place) (z : Place) → StaysParted old new → PartsAt old z → PartsAt new z
parts_on old new z stays parts x y lies = stays x y (parts x y lies)

-- what holds of each entry and of the new one, at each place that is equal to its own, holds after an insertion
each_put : (P : Route → Type 0) (z : Place) (path : Path) → ((q : Place) → place_cmp z q ≡ Equal → P (q, path)) → P (z, path) → (held : List Route)
    → AllByRecursion P held → AllByRecursion P (insert_entry place_cmp held z path)
each_put P z path same new [] all = (new, tt)
each_put P z path same new (r ∷ held) all = at (place_cmp z r.0) refl (each_put P z path same new held all.1) where
  at : (o : Ordering) → place_cmp z r.0 ≡ o → AllByRecursion P (insert_entry place_cmp held z path)
      → AllByRecursion P (match_ordering o ((z, path) ∷ r ∷ held) ((r.0, path) ∷ held) (r ∷ insert_entry place_cmp held z path))
  at Less e ih = (new, all)
  at Equal e ih = (same r.0 e, all.1)
  at Greater e ih = (all.0, ih)

-- a route comes, parted from those before and after it
module _ (turns : List Place) (held : List Route) (z : Place) (path : Path) where
  abbrev came : List Route
  came = insert_entry place_cmp held z path

  abbrev asn : Option ℕ
  asn = neighbour path.segments

  pub parted_put : IsParted turns held → IsPartedBefore turns held z (neighbour path.segments) → IsPartedAfter turns held z (neighbour path.segments)
      → IsParted turns (insert_entry place_cmp held z path)
  parted_put h before after = each_put (λ r. IsPartedAfter turns came r.0 (neighbour_of r)) z path at_new (at_new z (tied_itself place_total z)) held
      (each_both (λ r. IsPartedAfter turns held r.0 (neighbour_of r)) (IsPartedTo turns z asn) (λ r. IsPartedAfter turns came r.0 (neighbour_of r))
      at_old held h before) where
        to_equal : (r : Route) → IsPartedTo turns z asn r → (q : Place) → place_cmp z q ≡ Equal → IsPartedTo turns q asn r
        to_equal r f q same below other =
            wider turns r.0 r.0 z q (upto_itself r.0) (equal_upto z q same) (f (below_upto r.0 q z below (equal_back z q same)) other)

        at_old : (r : Route) → IsPartedAfter turns held r.0 (neighbour_of r) → IsPartedTo turns z asn r → IsPartedAfter turns came r.0 (neighbour_of r)
        at_old r all f = each_put (IsPartedFrom turns r.0 (neighbour_of r)) z path (to_equal r f) f held all

        from_equal : (q : Place) → place_cmp z q ≡ Equal → (s : Route) → IsPartedFrom turns z asn s → IsPartedFrom turns q asn s
        from_equal q same s f below other =
            wider turns q z s.0 s.0 (equal_back z q same) (upto_itself s.0) (f (upto_below z q s.0 (equal_upto z q same) below) other)

        alike : (q t : Place) → IsPartedFrom turns q asn (t, path)
        alike q t below other = absurd (true≢false (sym (same_itself asn) ∙ other))

        at_new : (q : Place) → place_cmp z q ≡ Equal → IsPartedAfter turns came q asn
        at_new q same = each_put (IsPartedFrom turns q asn) z path (λ t _. alike q t) (alike q z) held
            (each_weaker (IsPartedFrom turns z asn) (IsPartedFrom turns q asn) (from_equal q same) held after)

-- the same, of what a call says of the routes beside the place
pub parted_beside : (turns : List Place) (held made : List Route) (z : Place) (path : Path) (asn : Option ℕ) (beside : Beside) → AreBeside held z beside
    → asn ≡ neighbour path.segments → made ≡ insert_entry place_cmp held z path → IsParted turns beside.paths.now.entries
    → IsPartedAround turns beside.paths.now.entries beside.place asn → IsParted turns made
parted_beside turns held made z path asn beside are named is parted around =
    subst (IsParted turns) (sym is) (rw (sym are.of_routes) (rw (sym are.at_place)
    (parted_put turns beside.paths.now.entries beside.place path parted
    (subst (IsPartedBefore turns beside.paths.now.entries beside.place) named around.before)
    (subst (IsPartedAfter turns beside.paths.now.entries beside.place) named around.after))))

-- what a route before some place needs of the last one there, to stay parted from those behind it
abbrev pub Fore : List Place → Option Route → Route → Type 0
Fore turns None x = ⊥
Fore turns (Some b) x = le x.0 b.0 × (is_same (neighbour_of x) (neighbour_of b) ≡ false → are_parted turns x.0 b.0 ≡ true)

-- and a route behind it of the first one there
abbrev pub Aft : List Place → Option Route → Route → Type 0
Aft turns None y = ⊥
Aft turns (Some a) y = le a.0 y.0 × (is_same (neighbour_of a) (neighbour_of y) ≡ false → are_parted turns a.0 y.0 ≡ true)

turned_off : (b c : Bool) → b ≡ true → b ≡ false → c ≡ true
turned_off true c h k = absurd (true≢false k)
turned_off false c h k = absurd (true≢false (sym h))

abbrev IsUpto : Route → Route → Type 0
IsUpto b x = le x.0 b.0 × (is_same (neighbour_of x) (neighbour_of b) ≡ false → lt x.0 b.0)

abbrev IsFrom : Route → Route → Type 0
IsFrom a y = le a.0 y.0 × (is_same (neighbour_of a) (neighbour_of y) ≡ false → lt a.0 y.0)

upto_own : (r : Route) → IsUpto r r
upto_own r = (upto_itself r.0, turned_off (is_same (neighbour_of r) (neighbour_of r)) (is_lt (place_cmp r.0 r.0)) (same_itself (neighbour_of r)))

module _ (turns : List Place) (held : List Route) (test : Route → Bool) (sorted : IsStrictlySortedBy place_cmp (keys_of held))
    (parted : IsParted turns held) where
  pub fores : (o : Option Route) → find_last test held ≡ o → AllByRecursion (λ x. test x ≡ true → Fore turns o x) held
  fores None e = each_weaker (λ x. test x ≡ false) (λ x. test x ≡ true → ⊥) (λ x no yes. true≢false (sym yes ∙ no)) held (no_last test held e)
  fores (Some b) e = each_both (λ x. test x ≡ true → IsUpto b x) (λ x. IsPartedFrom turns x.0 (neighbour_of x) b) (λ x. test x ≡ true → Fore turns (Some b) x)
      (λ x f part yes. ((f yes).0, λ other. part ((f yes).1 other) other)) held
      (before_last place_cmp (λ r. r.0) test (IsUpto b) held sorted b e (upto_own b) (λ x less. (ap is_le less, λ other. ap is_lt less)))
      (each_weaker (λ x. IsPartedAfter turns held x.0 (neighbour_of x)) (λ x. IsPartedFrom turns x.0 (neighbour_of x) b)
      (λ x. last_each test (IsPartedFrom turns x.0 (neighbour_of x)) held b e) held parted)

  pub afts : (p : Option Route) → find test held ≡ p → AllByRecursion (λ y. test y ≡ true → Aft turns p y) held
  afts None e = each_weaker (λ y. test y ≡ false) (λ y. test y ≡ true → ⊥) (λ y no yes. true≢false (sym yes ∙ no)) held (none_found test held e)
  afts (Some a) e = each_both (λ y. test y ≡ true → IsFrom a y) (IsPartedFrom turns a.0 (neighbour_of a)) (λ y. test y ≡ true → Aft turns (Some a) y)
      (λ y f part yes. ((f yes).0, λ other. part ((f yes).1 other) other)) held
      (after_found place_cmp (λ r. r.0) test (IsFrom a) held sorted a e (upto_own a) (λ y less. (ap is_le less, λ other. ap is_lt less)))
      (found_each test (λ r. IsPartedAfter turns held r.0 (neighbour_of r)) held a e parted)

-- a turn stands at the place itself
pub parted_here : (turns : List Place) (held : List Route) (z : Place) (asn : Option ℕ) → PartsAt turns z → IsPartedBefore turns held z asn
parted_here turns held z asn h = each (IsPartedTo turns z asn) (λ r below other. h r.0 z (lies_in r.0 z z below (upto_itself z))) held

-- no turn is wanted at the place, or one stands there
pub parted_fore : (turns : List Place) (held : List Route) (z : Place) (asn : Option ℕ) (o : Option Route)
    → IsStrictlySortedBy place_cmp (keys_of held) → find_last (is_before z) held ≡ o → IsParted turns held
    → (is_alike asn o ≡ false → PartsAt turns z) → IsPartedBefore turns held z asn
parted_fore turns held z asn o sorted e parted h = at o e h (fores turns held (is_before z) sorted parted o e) where
  at : (o : Option Route) → find_last (is_before z) held ≡ o → (is_alike asn o ≡ false → PartsAt turns z)
      → AllByRecursion (λ x. lt x.0 z → Fore turns o x) held → IsPartedBefore turns held z asn
  at None e h all = each_weaker (λ x. lt x.0 z → ⊥) (IsPartedTo turns z asn) (λ x f below other. absurd (f below)) held all
  at (Some b) e h all = by (is_same (neighbour_of b) asn) refl where
    below_b : lt b.0 z
    below_b = last_passes (is_before z) held b e

    by : (c : Bool) → is_same (neighbour_of b) asn ≡ c → IsPartedBefore turns held z asn
    by true k = each_weaker (λ x. lt x.0 z → Fore turns (Some b) x) (IsPartedTo turns z asn)
        (λ x f below other. wider turns x.0 x.0 b.0 z (upto_itself x.0) (lt_le (place_cmp b.0 z) below_b)
        ((f below).1 (subst (λ n. is_same (neighbour_of x) n ≡ false) (sym (same_is (neighbour_of b) asn k)) other))) held all
    by false k = parted_here turns held z asn (h k)

-- no turn is wanted at the route after, or one stands there
pub parted_aft : (turns : List Place) (held : List Route) (z : Place) (asn : Option ℕ) (p : Option Route)
    → IsStrictlySortedBy place_cmp (keys_of held) → find (is_after z) held ≡ p → IsParted turns held
    → IsPartedAt turns asn p → IsPartedAfter turns held z asn
parted_aft turns held z asn p sorted e parted h = at p e h (afts turns held (is_after z) sorted parted p e) where
  at : (p : Option Route) → find (is_after z) held ≡ p → IsPartedAt turns asn p → AllByRecursion (λ y. lt z y.0 → Aft turns p y) held
      → IsPartedAfter turns held z asn
  at None e h all = each_weaker (λ y. lt z y.0 → ⊥) (IsPartedFrom turns z asn) (λ y f below other. absurd (f below)) held all
  at (Some a) e h all = by (is_same (neighbour_of a) asn) refl where
    above_a : lt z a.0
    above_a = found_passes (is_after z) held a e

    by : (c : Bool) → is_same (neighbour_of a) asn ≡ c → IsPartedAfter turns held z asn
    by true k = each_weaker (λ y. lt z y.0 → Aft turns (Some a) y) (IsPartedFrom turns z asn)
        (λ y f below other. wider turns z a.0 y.0 y.0 (lt_le (place_cmp z a.0) above_a) (upto_itself y.0)
        ((f below).1 (subst (λ n. is_same n (neighbour_of y) ≡ false) (sym (same_is (neighbour_of a) asn k)) other))) held all
    by false k = each_weaker (λ y. lt z y.0 → Aft turns (Some a) y) (IsPartedFrom turns z asn)
        (λ y f below other. h k z y.0 (lies_in z y.0 a.0 above_a (f below).0)) held all

-- a path comes in place of one of the same neighbouring AS
module _ (turns : List Place) (held : List Route) (z : Place) (asn : Option ℕ) (g : Route) (e : find (is_at_or_after z) held ≡ Some g)
    (same : place_cmp z g.0 ≡ Equal) (alike : is_same (neighbour_of g) asn ≡ true) (parted : IsParted turns held) where
  alike_before : IsPartedBefore turns held z asn
  alike_before = each_weaker (λ r. IsPartedAfter turns held r.0 (neighbour_of r)) (IsPartedTo turns z asn)
      (λ r part below other. wider turns r.0 r.0 g.0 z (upto_itself r.0) (equal_back z g.0 same)
      (found_each (λ s. is_le (place_cmp z s.0)) (IsPartedFrom turns r.0 (neighbour_of r)) held g e part
      (below_upto r.0 z g.0 below (equal_upto z g.0 same))
      (subst (λ n. is_same (neighbour_of r) n ≡ false) (sym (same_is (neighbour_of g) asn alike)) other))) held parted

  alike_after : IsPartedAfter turns held z asn
  alike_after = each_weaker (IsPartedFrom turns g.0 (neighbour_of g)) (IsPartedFrom turns z asn)
      (λ s part below other. wider turns z g.0 s.0 s.0 (equal_upto z g.0 same) (upto_itself s.0)
      (part (upto_below g.0 z s.0 (equal_back z g.0 same) below)
      (subst (λ n. is_same n (neighbour_of s) ≡ false) (sym (same_is (neighbour_of g) asn alike)) other))) held
      (found_each (is_at_or_after z) (λ r. IsPartedAfter turns held r.0 (neighbour_of r)) held g e parted)

pub parted_replaced : (turns : List Place) (held : List Route) (z : Place) (path : Path) (o : Option Route) → find (is_at_or_after z) held ≡ o
    → stands_at z o ≡ true → is_alike (neighbour path.segments) o ≡ true → IsParted turns held
    → IsParted turns (insert_entry place_cmp held z path)
parted_replaced turns held z path None e there alike parted = absurd (true≢false (sym there))
parted_replaced turns held z path (Some g) e there alike parted = let same = equal_of_is_eq (place_cmp z g.0) there in
    parted_put turns held z path parted (alike_before turns held z (neighbour path.segments) g e same alike parted)
    (alike_after turns held z (neighbour path.segments) g e same alike parted)

-- the first route from the place on is after it, if it doesn't stand there
pub next_behind : (held : List Route) (z : Place) (o : Option Route) → find (is_at_or_after z) held ≡ o → stands_at z o ≡ false → o ≡ find (is_after z) held
next_behind held z None e apart =
    sym (find_none (is_after z) held
    (each_weaker (λ r. is_le (place_cmp z r.0) ≡ false) (λ r. is_lt (place_cmp z r.0) ≡ false) (λ r. no_less (place_cmp z r.0)) held
    (none_found (is_at_or_after z) held e))) where
      no_less : (o : Ordering) → is_le o ≡ false → is_lt o ≡ false
      no_less Less h = h
      no_less Equal h = refl
      no_less Greater h = refl
next_behind held z (Some s) e apart = sym (find_narrower (is_at_or_after z) (is_after z) (λ r. lt_le (place_cmp z r.0)) held s e
    (less (place_cmp z s.0) (found_passes (is_at_or_after z) held s e) apart)) where
      less : (o : Ordering) → is_le o ≡ true → is_eq o ≡ false → is_lt o ≡ true
      less Less h k = refl
      less Equal h k = sym k
      less Greater h k = h

same_held : (held : List Route) (z : Place) (path : Path) (g : Route) → find (is_at_or_after z) held ≡ Some g → place_cmp z g.0 ≡ Equal → g.1 ≡ path
    → insert_entry place_cmp held z path ≡ held
same_held [] z path g e same is = cc
same_held (r ∷ held) z path g e same is = at (place_cmp z r.0) refl e (λ k. same_held held z path g k same is) where
  at : (o : Ordering) → place_cmp z r.0 ≡ o → cond (is_le o) (Some r) (find (is_at_or_after z) held) ≡ Some g
      → (find (is_at_or_after z) held ≡ Some g → insert_entry place_cmp held z path ≡ held)
      → match_ordering o ((z, path) ∷ r ∷ held) ((r.0, path) ∷ held) (r ∷ insert_entry place_cmp held z path) ≡ r ∷ held
  at Less l k ih = absurd (true≢false (sym (ap is_lt l) ∙ ap (λ s. is_lt (place_cmp z s.0)) (same_Some r g k) ∙ ap is_lt same))
  at Equal l k ih = ap (λ p. (r.0, p) ∷ held) (sym is ∙ ap (λ s. s.1) (sym (same_Some r g k)))
  at Greater l k ih = ap (λ rs. r ∷ rs) (ih k)

-- the path that a place has comes once more
pub put_again : (held : List Route) (z : Place) (path : Path) (o : Option Route) → find (is_at_or_after z) held ≡ o → stands_at z o ≡ true
    → option_map (λ r. r.1) o ≡ Some path → insert_entry place_cmp held z path ≡ held
put_again held z path None e there is = absurd (true≢false (sym there))
put_again held z path (Some g) e there is = same_held held z path g e (equal_of_is_eq (place_cmp z g.0) there) (same_Some g.1 path is)

-- a path whose insertion changes nothing is the one that the place has
put_back : (held : List Route) (z : Place) (path : Path) → insert_entry place_cmp held z path ≡ held
    → (stands_at z (find (is_at_or_after z) held) ≡ true)
    × (option_map (λ r. r.1) (find (is_at_or_after z) held) ≡ Some path)
put_back [] z path same = absurd (longer (ap length same)) where
  longer : suc zero ≡ zero → ⊥
  longer e = omega (arith, e)
put_back (r ∷ held) z path same = at (place_cmp z r.0) refl same (put_back held z path) where
  longer : (n : ℕ) → suc (suc n) ≡ suc n → ⊥
  longer n e = omega (arith, e)

  rest_is : (a b : List Route) → (r ∷ a) ≡ (r ∷ b) → a ≡ b
  rest_is a b k = cc

  first_is : (a b : Route) → (a ∷ held) ≡ (b ∷ held) → a ≡ b
  first_is a b k = cc

  at : (o : Ordering) → place_cmp z r.0 ≡ o
      → match_ordering o ((z, path) ∷ r ∷ held) ((r.0, path) ∷ held) (r ∷ insert_entry place_cmp held z path) ≡ r ∷ held
      → (insert_entry place_cmp held z path ≡ held
      → (stands_at z (find (is_at_or_after z) held) ≡ true)
      × (option_map (λ r. r.1) (find (is_at_or_after z) held) ≡ Some path))
      → (stands_at z (cond (is_le o) (Some r) (find (is_at_or_after z) held)) ≡ true)
      × (option_map (λ r. r.1) (cond (is_le o) (Some r) (find (is_at_or_after z) held)) ≡ Some path)
  at Less l k ih = absurd (longer (length held) (ap length k))
  at Equal l k ih = (ap is_eq l, ap Some (sym (ap (λ (s : Route). s.1) (first_is (r.0, path) r k))))
  at Greater l k ih = ih (rest_is (insert_entry place_cmp held z path) held k)

-- so another one, or one at a free place, changes the routes
pub put_changes : (old : Option Path) (held made : List Route) (z : Place) (path : Path) (next : Option Route) → next ≡ find (is_at_or_after z) held
    → made ≡ insert_entry place_cmp held z path
    → (stands_at z next ≡ false) ⊎ (option_map (λ r. r.1) next ≡ Some path → ⊥) → (Some old ≡ None) ↔ made ≡ held
put_changes old held made z path next found is other = ((λ e. cc), (λ same. absurd (at other (put_back held z path (sym is ∙ same))))) where
  at : (stands_at z next ≡ false) ⊎ (option_map (λ r. r.1) next ≡ Some path → ⊥)
      → (stands_at z (find (is_at_or_after z) held) ≡ true) × (option_map (λ r. r.1) (find (is_at_or_after z) held) ≡ Some path) → ⊥
  at (inl free) back = true≢false (sym back.0 ∙ ap (stands_at z) (sym found) ∙ free)
  at (inr apart) back = apart (ap (option_map (λ r. r.1)) found ∙ back.1)
