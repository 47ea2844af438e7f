-- Routes that are taken out of the groups of some destinations.
use Rattle.fs_flows.proofs.Words.{ℕ, ◌≡◌, refl, sym, ap, ap₂, subst, ◌∙◌, Bool, true, false, true≢false, not, ◌||◌, ◌==◌, cond, List, [], ◌∷◌, ◌++◌}
use Rattle.fs_flows.proofs.Words.{filter, map, Option, Some, None, is_eq, AllByRecursion, keys_of, MatchOption, eqb-true, sorted_head, sorted_tail}
use Rattle.fs_flows.proofs.Words.{Config, Prefix, prefix_cmp, true_of_not, each, each_weaker, each_both, filter-append, filter_all, each_filtered}
use Rattle.fs_flows.proofs.Words.{destination_prefix, Route, Kept, mended, retested, is_related_kept, is_of_other, Entry, kept_in, IsTo, ArePlaced}
use Rattle.fs_flows.proofs.Words.{AreInOrder, IsGrouped, with_group, keep_at, Destinations, lists, is_among, StaysListed, IsAmong, IsListed, keep_along}
use Rattle.fs_flows.proofs.{Apart.{each_front, each_back}, Changed.{each-filtered}}
use Rattle.fs_flows.proofs.TakingFromGroups.{kept_with, placed_at, each_at, sorted_at, other_keys}
use Rattle.fs_flows.proofs.Grouping.{few_left}

module _ (keeps : Kept → Bool) where
  abbrev passes : Kept → Type 0
  passes k = keeps k ≡ true

  along_sorted : (ds : List Prefix) (es : List Entry) → AreInOrder es → AreInOrder (keep_along ds keeps es)
  along_sorted [] es h = h
  along_sorted (d ∷ ds) es h = along_sorted ds (keep_at d keeps es) (sorted_at d keeps es h)

  along_placed : (ds : List Prefix) (es : List Entry) → ArePlaced es → ArePlaced (keep_along ds keeps es)
  along_placed [] es h = h
  along_placed (d ∷ ds) es h = along_placed ds (keep_at d keeps es) (placed_at d keeps es h)

  pub along_keys : (P : Prefix → Type 0) (ds : List Prefix) (es : List Entry) → AllByRecursion P (keys_of es)
      → AllByRecursion P (keys_of (keep_along ds keeps es))
  along_keys P [] es h = h
  along_keys P (d ∷ ds) es h = along_keys P ds (keep_at d keeps es) (each_at P d keeps es h)

  -- what passes is left
  left_at : (d : Prefix) (es : List Entry) (rest : List Kept) → filter keeps (kept_in (keep_at d keeps es) rest) ≡ filter keeps (kept_in es rest)
  left_at d [] rest = refl
  left_at d (e ∷ es) rest = at (is_eq (prefix_cmp d e.0)) (left_at d es rest) where
    at : (b : Bool) → filter keeps (kept_in (keep_at d keeps es) rest) ≡ filter keeps (kept_in es rest)
        → filter keeps (kept_in (cond b (with_group e.0 (filter keeps e.1) es) (e ∷ keep_at d keeps es)) rest) ≡ filter keeps (e.1 ++ kept_in es rest)
    at true ih = ap (filter keeps) (kept_with e.0 (filter keeps e.1) es rest) ∙ filter-append keeps (filter keeps e.1) (kept_in es rest)
        ∙ ap (λ ks. ks ++ filter keeps (kept_in es rest))
        (filter_all keeps (filter keeps e.1) (each-filtered (λ k. Unit {0}) passes keeps (λ k _ e. e) e.1 (each (λ k. Unit {0}) (λ k. tt) e.1)))
        ∙ sym (filter-append keeps e.1 (kept_in es rest))
    at false ih = filter-append keeps e.1 (kept_in (keep_at d keeps es) rest) ∙ ap (λ ks. filter keeps e.1 ++ ks) ih
        ∙ sym (filter-append keeps e.1 (kept_in es rest))

  left_along : (ds : List Prefix) (es : List Entry) (rest : List Kept) → filter keeps (kept_in (keep_along ds keeps es) rest) ≡ filter keeps (kept_in es rest)
  left_along [] es rest = refl
  left_along (d ∷ ds) es rest = left_along ds (keep_at d keeps es) rest ∙ left_at d es rest

  -- what doesn't pass has one of the destinations
  abbrev IsIn : List Prefix → Prefix → Kept → Type 0
  IsIn ds p k = keeps k ≡ false → is_among ds p ≡ true

  abbrev AreIn : List Prefix → List Entry → Type 0
  AreIn ds es = AllByRecursion (λ e. AllByRecursion (IsIn ds e.0) e.1) es

  in_with : (ds : List Prefix) (p : Prefix) (ks : List Kept) (es : List Entry) → AllByRecursion (IsIn ds p) ks → AreIn ds es → AreIn ds (with_group p ks es)
  in_with ds p [] es h all = all
  in_with ds p (k ∷ ks) es h all = (h, all)

  fewer : (d : Prefix) (ds : List Prefix) (p : Prefix) (ks : List Kept) → is_eq (prefix_cmp d p) ≡ false → AllByRecursion (IsIn (d ∷ ds) p) ks
      → AllByRecursion (IsIn ds p) ks
  fewer d ds p ks e h = each_weaker (IsIn (d ∷ ds) p) (IsIn ds p) (λ k i n. sym (ap (λ b. b || is_among ds p) e) ∙ i n) ks h

  fewer_each : (d : Prefix) (ds : List Prefix) (es : List Entry) → AllByRecursion (λ q. is_eq (prefix_cmp d q) ≡ false) (keys_of es)
      → AreIn (d ∷ ds) es → AreIn ds es
  fewer_each d ds [] apart h = tt
  fewer_each d ds (e ∷ es) apart h = (fewer d ds e.0 e.1 apart.0 h.0, fewer_each d ds es apart.1 h.1)

  in_at : (d : Prefix) (ds : List Prefix) (es : List Entry) → AreInOrder es → AreIn (d ∷ ds) es → AreIn ds (keep_at d keeps es)
  in_at d ds [] ordered h = tt
  in_at d ds (e ∷ es) ordered h = at (is_eq (prefix_cmp d e.0)) refl (in_at d ds es (sorted_tail prefix_cmp e.0 (keys_of es) ordered) h.1) where
    at : (b : Bool) → is_eq (prefix_cmp d e.0) ≡ b → AreIn ds (keep_at d keeps es)
        → AreIn ds (cond b (with_group e.0 (filter keeps e.1) es) (e ∷ keep_at d keeps es))
    at true t ih = in_with ds e.0 (filter keeps e.1) es
        (each_weaker passes (IsIn ds e.0) (λ k y n. absurd (true≢false (sym y ∙ n))) (filter keeps e.1)
        (each-filtered (λ k. Unit {0}) passes keeps (λ k _ e. e) e.1 (each (λ k. Unit {0}) (λ k. tt) e.1)))
        (fewer_each d ds es (other_keys d e.0 (keys_of es) t (sorted_head prefix_cmp e.0 (keys_of es) ordered)) h.1)
    at false t ih = (fewer d ds e.0 e.1 t h.0, ih)

  in_along : (ds : List Prefix) (es : List Entry) → AreInOrder es → AreIn ds es → AreIn [] (keep_along ds keeps es)
  in_along [] es ordered h = h
  in_along (d ∷ ds) es ordered h = in_along ds (keep_at d keeps es) (sorted_at d keeps es ordered) (in_at d ds es ordered h)

  kept_by : (k : Kept) → (keeps k ≡ false → false ≡ true) → keeps k ≡ true
  kept_by k h = at (keeps k) refl where
    at : (b : Bool) → keeps k ≡ b → keeps k ≡ true
    at true e = e
    at false e = absurd (true≢false (sym (h e)))

  all_left : (es : List Entry) (rest : List Kept) → AreIn [] es → filter keeps (kept_in es rest) ≡ kept_in es (filter keeps rest)
  all_left [] rest h = refl
  all_left (e ∷ es) rest h = filter-append keeps e.1 (kept_in es rest)
      ∙ ap₂ (λ a b. a ++ b) (filter_all keeps e.1 (each_weaker (IsIn [] e.0) passes (λ k i. kept_by k i) e.1 h.0)) (all_left es rest h.1)

  in_groups : (ds : List Prefix) (es : List Entry) (rest : List Kept) → ArePlaced es
      → AllByRecursion (λ k. keeps k ≡ false → IsAmong ds k) (kept_in es rest) → AreIn ds es
  in_groups ds [] rest placed h = tt
  in_groups ds (e ∷ es) rest placed h = (
    each_both (IsTo (Some e.0)) (λ k. keeps k ≡ false
        → IsAmong ds k) (IsIn ds e.0) (λ k t among n. subst (λ (d : Option Prefix). MatchOption d (Unit {0}) (λ p. is_among ds p ≡ true)) t (among n))
        e.1 placed.0
        (each_front (λ k. keeps k ≡ false → IsAmong ds k) e.1 (kept_in es rest) h),
    in_groups ds es rest placed.1 (each_back (λ k. keeps k ≡ false → IsAmong ds k) e.1 (kept_in es rest) h),
  )

  module _ (ds : List Prefix) {es new : List Entry} {rest left : List Kept} {bound : ℕ} (g : IsGrouped es rest bound)
      (h : AllByRecursion (λ k. keeps k ≡ false → IsAmong ds k) (kept_in es rest)) (e : new ≡ keep_along ds keeps es)
      (f : left ≡ filter keeps rest) where
    pub kept_along : kept_in new left ≡ filter keeps (kept_in es rest)
    kept_along = ap (λ fs. kept_in fs left) e ∙ ap (kept_in (keep_along ds keeps es)) f
        ∙ sym (all_left (keep_along ds keeps es) rest (in_along ds es g.ordered (in_groups ds es rest g.placed h))) ∙ left_along ds es rest

    pub grouped_along : IsGrouped new left bound
    grouped_along = record {
      ordered = subst AreInOrder (sym e) (along_sorted ds es g.ordered);
      placed = subst ArePlaced (sym e) (along_placed ds es g.placed);
      bare = subst (AllByRecursion (IsTo None)) (sym f) (each_filtered (IsTo None) keeps rest g.bare);
      most = few_left g keeps (kept_in new left) kept_along;
      small = g.small;
    }

-- What is listed stays so.
pub listed_still : (old new : Destinations) → StaysListed old new → (ks : List Kept) → AllByRecursion (IsListed old) ks → AllByRecursion (IsListed new) ks
listed_still old new stays ks h = each_weaker (IsListed old) (IsListed new) (λ k l. at k.route.peer (destination_prefix k.route.rule) l) ks h where
  at : (peer : ℕ) (d : Option Prefix) → MatchOption d (Unit {0}) (λ p. lists old peer p ≡ true) → MatchOption d (Unit {0}) (λ p. lists new peer p ≡ true)
  at peer None l = tt
  at peer (Some p) l = stays peer p l

pub listed_left : (listed : Destinations) (keeps : Kept → Bool) (old new : List Kept) → new ≡ filter keeps old → AllByRecursion (IsListed listed) old
    → AllByRecursion (IsListed listed) new
listed_left listed keeps old new e h = subst (AllByRecursion (IsListed listed)) (sym e) (each_filtered (IsListed listed) keeps old h)

mended_each : (listed : Destinations) (p : Prefix) (unicast : List Route) (config : Config) (ks : List Kept) → AllByRecursion (IsListed listed) ks
    → AllByRecursion (IsListed listed) (map (mended p unicast config) ks)
mended_each listed p unicast config [] h = tt
mended_each listed p unicast config (k ∷ ks) h = (at (is_related_kept p k), mended_each listed p unicast config ks h.1) where
  at : (b : Bool) → IsListed listed (cond b (retested unicast config k) k)
  at true = h.0
  at false = h.0

pub listed_mended : (listed : Destinations) (p : Prefix) (unicast : List Route) (config : Config) (old new : List Kept)
    → new ≡ map (mended p unicast config) old → AllByRecursion (IsListed listed) old → AllByRecursion (IsListed listed) new
listed_mended listed p unicast config old new e h = subst (AllByRecursion (IsListed listed)) (sym e) (mended_each listed p unicast config old h)

abbrev StaysBut : ℕ → Destinations → Destinations → Type 0
StaysBut peer old new = (other : ℕ) (d : Prefix) → (other == peer) ≡ false → lists old other d ≡ true → lists new other d ≡ true

still_one : (old now : Destinations) (peer other : ℕ) (d : Option Prefix) → StaysBut peer old now → (other == peer) ≡ false
    → MatchOption d (Unit {0}) (λ p. lists old other p ≡ true) → MatchOption d (Unit {0}) (λ p. lists now other p ≡ true)
still_one old now peer other None stays n l = tt
still_one old now peer other (Some p) stays n l = stays other p n l

others_each : (old now : Destinations) (peer : ℕ) (ks : List Kept) → StaysBut peer old now → AllByRecursion (IsListed old) ks
    → AllByRecursion (IsListed now) (filter (is_of_other peer) ks)
others_each old now peer [] stays h = tt
others_each old now peer (k ∷ ks) stays h = at (k.route.peer == peer) refl (others_each old now peer ks stays h.1) where
  at : (b : Bool) → (k.route.peer == peer) ≡ b → AllByRecursion (IsListed now) (filter (is_of_other peer) ks)
      → AllByRecursion (IsListed now) (cond (not b) (k ∷ filter (is_of_other peer) ks) (filter (is_of_other peer) ks))
  at true n ih = ih
  at false n ih = (still_one old now peer k.route.peer (destination_prefix k.route.rule) stays n h.0, ih)

-- of the other peers
pub listed_others : (old now : Destinations) (peer : ℕ) (kept new : List Kept) → StaysBut peer old now → new ≡ filter (is_of_other peer) kept
    → AllByRecursion (IsListed old) kept → AllByRecursion (IsListed now) new
listed_others old now peer kept new stays e h = subst (AllByRecursion (IsListed now)) (sym e) (others_each old now peer kept stays h)

-- the destinations of the peer's routes are those that are handed out
pub among_taken : (old : Destinations) (peer : ℕ) (keys : List Prefix) (ks : List Kept) → ((d : Prefix) → lists old peer d ≡ true → is_among keys d ≡ true)
    → AllByRecursion (IsListed old) ks
    → AllByRecursion (λ k. not (k.route.peer == peer) ≡ false → IsAmong keys k) ks
among_taken old peer keys ks taken h =
    each_weaker (IsListed old) (λ k. not (k.route.peer == peer) ≡ false
    → IsAmong keys k) (λ k l n. at k.route.peer (eqb-true k.route.peer peer (true_of_not (k.route.peer == peer) n)) (destination_prefix k.route.rule) l)
    ks h where
      at : (other : ℕ) → other ≡ peer → (d : Option Prefix) → MatchOption d (Unit {0}) (λ p. lists old other p ≡ true)
          → MatchOption d (Unit {0}) (λ p. is_among keys p ≡ true)
      at other e None l = tt
      at other e (Some p) l = taken p (subst (λ (n : ℕ). lists old n p ≡ true) e l)
