-- What is left of the groups where routes are taken away.
use Rattle.fs_flows.proofs.Words.{ℕ, suc, ◌≡◌, ◌≤◌, refl, sym, ap, ap₂, subst, ◌∙◌, Bool, true, false, true≢false, not, ◌==◌, cond, List, [], ◌∷◌}
use Rattle.fs_flows.proofs.Words.{◌++◌, filter, length, Option, Some, None, Less, is_eq, arith, list_any, AllByRecursion, IsStrictlySortedBy, is_at}
use Rattle.fs_flows.proofs.Words.{keys_of, lookup, set_value, remove_entry, MatchOption, eqb-true, none-some, same_Some, sorted_head, sorted_tail}
use Rattle.fs_flows.proofs.Words.{Prefix, prefix_cmp, prefix_total, tied_itself, each_weaker, each_both, each_append, filter-append, each_none}
use Rattle.fs_flows.proofs.Words.{each_filtered, same_from_cmp, Ruled, IsRule, destination_prefix, Kept, is_key, Entry, kept_in, IsTo, ArePlaced}
use Rattle.fs_flows.proofs.Words.{AreInOrder, with_group, keep_at, keep_each, HaveRules}
use Rattle.fs_flows.proofs.{Apart.{key_same, each_front, each_back}, Changed.{all_stay, any_back, any_front, left_back, left_front}}
use Rattle.std.specs.Map.Calls.{RetainsPairs}

-- told the other way round
pub turned : (b c : Bool) → not b ≡ c → b ≡ not c
turned true c h = ap not h
turned false c h = ap not h

pub kept_with : (p : Prefix) (ks : List Kept) (es : List Entry) (rest : List Kept) → kept_in (with_group p ks es) rest ≡ ks ++ kept_in es rest
kept_with p [] es rest = refl
kept_with p (k ∷ ks) es rest = refl

-- of each group what passes
pub kept_each : (keeps : Kept → Bool) (es : List Entry) (rest : List Kept) → kept_in (keep_each keeps es) (filter keeps rest) ≡ filter keeps (kept_in es rest)
kept_each keeps [] rest = refl
kept_each keeps (e ∷ es) rest = kept_with e.0 (filter keeps e.1) (keep_each keeps es) (filter keeps rest)
    ∙ ap (λ ks. filter keeps e.1 ++ ks) (kept_each keeps es rest) ∙ sym (filter-append keeps e.1 (kept_in es rest))

placed_with : (p : Prefix) (ks : List Kept) (es : List Entry) → AllByRecursion (IsTo (Some p)) ks → ArePlaced es → ArePlaced (with_group p ks es)
placed_with p [] es h placed = placed
placed_with p (k ∷ ks) es h placed = (h, placed)

pub placed_each : (keeps : Kept → Bool) (es : List Entry) → ArePlaced es → ArePlaced (keep_each keeps es)
placed_each keeps [] h = tt
placed_each keeps (e ∷ es) h =
    placed_with e.0 (filter keeps e.1) (keep_each keeps es) (each_filtered (IsTo (Some e.0)) keeps e.1 h.0) (placed_each keeps es h.1)

pub placed_at : (p : Prefix) (keeps : Kept → Bool) (es : List Entry) → ArePlaced es → ArePlaced (keep_at p keeps es)
placed_at p keeps [] h = tt
placed_at p keeps (e ∷ es) h = at (is_eq (prefix_cmp p e.0)) (placed_at p keeps es h.1) where
  at : (b : Bool) → ArePlaced (keep_at p keeps es) → ArePlaced (cond b (with_group e.0 (filter keeps e.1) es) (e ∷ keep_at p keeps es))
  at true ih = placed_with e.0 (filter keeps e.1) es (each_filtered (IsTo (Some e.0)) keeps e.1 h.0) h.1
  at false ih = (h.0, ih)

each_with : (P : Prefix → Type 0) (p : Prefix) (ks : List Kept) (es : List Entry) → P p → AllByRecursion P (keys_of es)
    → AllByRecursion P (keys_of (with_group p ks es))
each_with P p [] es h all = all
each_with P p (k ∷ ks) es h all = (h, all)

pub each_at : (P : Prefix → Type 0) (p : Prefix) (keeps : Kept → Bool) (es : List Entry) → AllByRecursion P (keys_of es)
    → AllByRecursion P (keys_of (keep_at p keeps es))
each_at P p keeps [] h = tt
each_at P p keeps (e ∷ es) h = at (is_eq (prefix_cmp p e.0)) (each_at P p keeps es h.1) where
  at : (b : Bool) → AllByRecursion P (keys_of (keep_at p keeps es))
      → AllByRecursion P (keys_of (cond b (with_group e.0 (filter keeps e.1) es) (e ∷ keep_at p keeps es)))
  at true ih = each_with P e.0 (filter keeps e.1) es h.0 h.1
  at false ih = (h.0, ih)

pub each_left : (P : Prefix → Type 0) (keeps : Kept → Bool) (es : List Entry) → AllByRecursion P (keys_of es) → AllByRecursion P (keys_of (keep_each keeps es))
each_left P keeps [] h = tt
each_left P keeps (e ∷ es) h = each_with P e.0 (filter keeps e.1) (keep_each keeps es) h.0 (each_left P keeps es h.1)

-- by the parts of an order
pub parts_sorted : (p : Prefix) (ps : List Prefix) → AllByRecursion (λ q. prefix_cmp p q ≡ Less) ps → IsStrictlySortedBy prefix_cmp ps
    → IsStrictlySortedBy prefix_cmp (p ∷ ps)
unfolding IsStrictlySortedBy
parts_sorted p ps h k = (h, k)

sorted_with : (p : Prefix) (ks : List Kept) (es : List Entry) → IsStrictlySortedBy prefix_cmp (p ∷ keys_of es) → AreInOrder (with_group p ks es)
sorted_with p [] es h = sorted_tail prefix_cmp p (keys_of es) h
sorted_with p (k ∷ ks) es h = h

pub sorted_at : (p : Prefix) (keeps : Kept → Bool) (es : List Entry) → AreInOrder es → AreInOrder (keep_at p keeps es)
sorted_at p keeps [] h = h
sorted_at p keeps (e ∷ es) h = at (is_eq (prefix_cmp p e.0)) (sorted_at p keeps es (sorted_tail prefix_cmp e.0 (keys_of es) h)) where
  at : (b : Bool) → AreInOrder (keep_at p keeps es) → AreInOrder (cond b (with_group e.0 (filter keeps e.1) es) (e ∷ keep_at p keeps es))
  at true ih = sorted_with e.0 (filter keeps e.1) es h
  at false ih = parts_sorted e.0 (keys_of (keep_at p keeps es))
      (each_at (λ q. prefix_cmp e.0 q ≡ Less) p keeps es (sorted_head prefix_cmp e.0 (keys_of es) h)) ih

-- The entries that the map has after its calls.
pub empty : (ks : List Kept) → (length ks == 0) ≡ true → ks ≡ []
empty [] h = refl
empty (k ∷ ks) h = absurd (let z : suc (length ks) ≡ 0 = eqb-true (suc (length ks)) 0 h in omega arith)

pub not_empty : (n : ℕ) → (suc n == 0) ≡ false
not_empty n = at (suc n == 0) refl where
  at : (b : Bool) → (suc n == 0) ≡ b → (suc n == 0) ≡ false
  at true e = absurd (let z : suc n ≡ 0 = eqb-true (suc n) 0 e in omega arith)
  at false e = e

some_group : (p : Prefix) (ks : List Kept) (es : List Entry) → (length ks == 0) ≡ false → (p, ks) ∷ es ≡ with_group p ks es
some_group p [] es h = absurd (true≢false h)
some_group p (k ∷ ks) es h = refl

pub taken_some : (p : Prefix) (keeps : Kept → Bool) (es : List Entry) (group : List Kept) → lookup (is_at (prefix_cmp p)) es ≡ Some group
    → (length (filter keeps group) == 0) ≡ false → set_value (is_at (prefix_cmp p)) es (filter keeps group) ≡ keep_at p keeps es
taken_some p keeps [] group h f = refl
taken_some p keeps (e ∷ es) group h f = at (is_eq (prefix_cmp p e.0)) h (taken_some p keeps es group) where
  at : (b : Bool) → cond b (Some e.1) (lookup (is_at (prefix_cmp p)) es) ≡ Some group
      → (lookup (is_at (prefix_cmp p)) es ≡ Some group → (length (filter keeps group) == 0) ≡ false
      → set_value (is_at (prefix_cmp p)) es (filter keeps group) ≡ keep_at p keeps es)
      → cond b ((e.0, filter keeps group) ∷ es) (e ∷ set_value (is_at (prefix_cmp p)) es (filter keeps group))
      ≡ cond b (with_group e.0 (filter keeps e.1) es) (e ∷ keep_at p keeps es)
  at true g ih = some_group e.0 (filter keeps group) es f ∙ ap (λ ks. with_group e.0 (filter keeps ks) es) (sym (same_Some e.1 group g))
  at false g ih = ap (λ fs. e ∷ fs) (ih g f)

pub taken_all : (p : Prefix) (keeps : Kept → Bool) (es : List Entry) (group : List Kept) → lookup (is_at (prefix_cmp p)) es ≡ Some group
    → (length (filter keeps group) == 0) ≡ true
    → remove_entry (is_at (prefix_cmp p)) (set_value (is_at (prefix_cmp p)) es (filter keeps group)) ≡ keep_at p keeps es
taken_all p keeps [] group h f = refl
taken_all p keeps (e ∷ es) group h f = at (is_eq (prefix_cmp p e.0)) refl h (taken_all p keeps es group) where
  at : (b : Bool) → is_eq (prefix_cmp p e.0) ≡ b → cond b (Some e.1) (lookup (is_at (prefix_cmp p)) es) ≡ Some group
      → (lookup (is_at (prefix_cmp p)) es ≡ Some group → (length (filter keeps group) == 0) ≡ true
      → remove_entry (is_at (prefix_cmp p)) (set_value (is_at (prefix_cmp p)) es (filter keeps group)) ≡ keep_at p keeps es)
      → remove_entry (is_at (prefix_cmp p)) (cond b ((e.0, filter keeps group) ∷ es) (e ∷ set_value (is_at (prefix_cmp p)) es (filter keeps group)))
      ≡ cond b (with_group e.0 (filter keeps e.1) es) (e ∷ keep_at p keeps es)
  at true t g ih = ap (λ c. cond c es ((e.0, filter keeps group) ∷ remove_entry (is_at (prefix_cmp p)) es)) t
      ∙ sym (ap (λ ks. with_group e.0 (filter keeps ks) es) (same_Some e.1 group g) ∙ ap (λ ks. with_group e.0 ks es) (empty (filter keeps group) f))
  at false t g ih = ap (λ c. cond c (set_value (is_at (prefix_cmp p)) es (filter keeps group))
      (e ∷ remove_entry (is_at (prefix_cmp p)) (set_value (is_at (prefix_cmp p)) es (filter keeps group)))) t ∙ ap (λ fs. e ∷ fs) (ih g f)

pub taken_none : (p : Prefix) (keeps : Kept → Bool) (es : List Entry) → lookup (is_at (prefix_cmp p)) es ≡ None → es ≡ keep_at p keeps es
taken_none p keeps [] h = refl
taken_none p keeps (e ∷ es) h = at (is_eq (prefix_cmp p e.0)) h (taken_none p keeps es) where
  at : (b : Bool) → cond b (Some e.1) (lookup (is_at (prefix_cmp p)) es) ≡ None → (lookup (is_at (prefix_cmp p)) es ≡ None → es ≡ keep_at p keeps es)
      → e ∷ es ≡ cond b (with_group e.0 (filter keeps e.1) es) (e ∷ keep_at p keeps es)
  at true g ih = cc
  at false g ih = ap (λ fs. e ∷ fs) (ih g)

pub retained : {F : Type 0} (T : F → Prefix → List Kept → Bool → List Kept → F → Type 0) (keeps : Kept → Bool) (f : F)
    → ((p : Prefix) (v : List Kept) (b : Bool) (w : List Kept) (f' : F) → T f p v b w f' → (b ≡ not (length w == 0)) × (w ≡ filter keeps v) × (f' ≡ f))
    → (es kept : List Entry) → RetainsPairs T f es kept → kept ≡ keep_each keeps es
retained T keeps f law [] kept h = h
retained T keeps f law (e ∷ es) kept (b, w, f', rest, call, more, is) = is
    ∙ at b w (law e.0 e.1 b w f' call) (retained T keeps f law es rest (subst (λ g. RetainsPairs T g es rest) (law e.0 e.1 b w f' call).2 more)) where
      at : (b : Bool) (w : List Kept) → (b ≡ not (length w == 0)) × (w ≡ filter keeps e.1) × (f' ≡ f) → rest ≡ keep_each keeps es
          → cond b ((e.0, w) ∷ rest) rest ≡ with_group e.0 (filter keeps e.1) (keep_each keeps es)
      at b w h ih = ap (λ c. cond c ((e.0, w) ∷ rest) rest) h.0 ∙ group w ∙ ap₂ (λ ks fs. with_group e.0 ks fs) h.1 ih where
        group : (w : List Kept) → cond (not (length w == 0)) ((e.0, w) ∷ rest) rest ≡ with_group e.0 w rest
        group [] = refl
        group (k ∷ ks) = ap (λ c. cond (not c) ((e.0, k ∷ ks) ∷ rest) rest) (not_empty (length ks))

-- behind the group of the destination
pub other_keys : (p q : Prefix) (ps : List Prefix) → is_eq (prefix_cmp p q) ≡ true → AllByRecursion (λ r. prefix_cmp q r ≡ Less) ps
    → AllByRecursion (λ r. is_eq (prefix_cmp p r) ≡ false) ps
other_keys p q ps e h = each_weaker (λ r. prefix_cmp q r ≡ Less) (λ r. is_eq (prefix_cmp p r) ≡ false)
    (λ r less. ap (λ a. is_eq (prefix_cmp a r)) (same_from_cmp p q e) ∙ ap is_eq less) ps h

-- A key is looked for in one group alone.
module _ (rule : Ruled) (peer : ℕ) (normal : IsRule rule) where
  abbrev hits : Kept → Bool
  hits k = is_key rule peer k.route

  abbrev passes : Kept → Bool
  passes k = not (is_key rule peer k.route)

  elsewhere : (q : Option Prefix) → (destination_prefix rule ≡ q → ⊥) → (k : Kept) → IsRule k.route.rule → IsTo q k → hits k ≡ false
  elsewhere q apart k sound d = at (hits k) refl where
    at : (b : Bool) → hits k ≡ b → hits k ≡ false
    at true e = absurd (apart (ap destination_prefix (key_same rule peer k normal sound e) ∙ d))
    at false e = e

  none_in : (q : Option Prefix) → (destination_prefix rule ≡ q → ⊥) → (ks : List Kept) → HaveRules ks → AllByRecursion (IsTo q) ks
      → AllByRecursion (λ k. hits k ≡ false) ks
  none_in q apart ks sound placed = each_both (λ k. IsRule k.route.rule) (IsTo q) (λ k. hits k ≡ false) (λ k s d. elsewhere q apart k s d) ks sound placed

  same_test : (p q : Prefix) → p ≡ q → is_eq (prefix_cmp p q) ≡ true
  same_test p q e = subst (λ r. is_eq (prefix_cmp p r) ≡ true) e (ap is_eq (tied_itself prefix_total p))

  other_prefix : (p q : Prefix) → destination_prefix rule ≡ Some p → is_eq (prefix_cmp p q) ≡ false → destination_prefix rule ≡ Some q → ⊥
  other_prefix p q d f e = true≢false (sym (same_test p q (same_Some p q (sym d ∙ e))) ∙ f)

  no_prefix : (p : Prefix) → destination_prefix rule ≡ Some p → destination_prefix rule ≡ None → ⊥
  no_prefix p d e = none-some p (sym e ∙ d)

  -- no route of the key in groups of other destinations
  none_behind : (p : Prefix) (es : List Entry) (rest : List Kept) → destination_prefix rule ≡ Some p
      → AllByRecursion (λ q. is_eq (prefix_cmp p q) ≡ false) (keys_of es) → ArePlaced es → AllByRecursion (IsTo None) rest
      → HaveRules (kept_in es rest) → AllByRecursion (λ k. hits k ≡ false) (kept_in es rest)
  none_behind p [] rest d keys placed bare sound = none_in None (no_prefix p d) rest sound bare
  none_behind p (e ∷ es) rest d keys placed bare sound = each_append (λ k. hits k ≡ false) e.1 (kept_in es rest)
      (none_in (Some e.0) (other_prefix p e.0 d keys.0) e.1 (each_front (λ k. IsRule k.route.rule) e.1 (kept_in es rest) sound) placed.0)
      (none_behind p es rest d keys.1 placed.1 bare (each_back (λ k. IsRule k.route.rule) e.1 (kept_in es rest) sound))

  pub taken_kept : (p : Prefix) (es : List Entry) (rest : List Kept) → destination_prefix rule ≡ Some p → AreInOrder es → ArePlaced es
      → AllByRecursion (IsTo None) rest → HaveRules (kept_in es rest)
      → kept_in (keep_at p passes es) rest ≡ filter passes (kept_in es rest)
  taken_kept p [] rest d ordered placed bare sound = sym (all_stay hits rest (none_in None (no_prefix p d) rest sound bare))
  taken_kept p (e ∷ es) rest d ordered placed bare sound =
      at (is_eq (prefix_cmp p e.0)) refl (taken_kept p es rest d (sorted_tail prefix_cmp e.0 (keys_of es) ordered) placed.1 bare later_sound) where
        later : List Kept
        later = kept_in es rest

        later_sound : HaveRules later
        later_sound = each_back (λ k. IsRule k.route.rule) e.1 later sound

        at : (b : Bool) → is_eq (prefix_cmp p e.0) ≡ b → kept_in (keep_at p passes es) rest ≡ filter passes later
            → kept_in (cond b (with_group e.0 (filter passes e.1) es) (e ∷ keep_at p passes es)) rest ≡ filter passes (e.1 ++ later)
        at true t ih = kept_with e.0 (filter passes e.1) es rest
            ∙ left_front hits e.1 later (none_behind p es rest d (other_keys p e.0 (keys_of es) t (sorted_head prefix_cmp e.0 (keys_of es) ordered))
            placed.1 bare later_sound)
        at false t ih = ap (λ ks. e.1 ++ ks) ih
            ∙ left_back hits e.1 later (none_in (Some e.0) (other_prefix p e.0 d t) e.1 (each_front (λ k. IsRule k.route.rule) e.1 later sound) placed.0)

  pub taken_held : (p : Prefix) (es : List Entry) (rest : List Kept) (held : Bool) → destination_prefix rule ≡ Some p → AreInOrder es → ArePlaced es
      → AllByRecursion (IsTo None) rest → HaveRules (kept_in es rest)
      → MatchOption (lookup (is_at (prefix_cmp p)) es) (held ≡ false) (λ group. held ≡ list_any hits group) → held ≡ list_any hits (kept_in es rest)
  taken_held p [] rest held d ordered placed bare sound h = h ∙ sym (each_none hits rest (none_in None (no_prefix p d) rest sound bare))
  taken_held p (e ∷ es) rest held d ordered placed bare sound h =
      at (is_eq (prefix_cmp p e.0)) refl h
      (taken_held p es rest held d (sorted_tail prefix_cmp e.0 (keys_of es) ordered) placed.1 bare later_sound) where
        later : List Kept
        later = kept_in es rest

        later_sound : HaveRules later
        later_sound = each_back (λ k. IsRule k.route.rule) e.1 later sound

        at : (b : Bool) → is_eq (prefix_cmp p e.0) ≡ b
            → MatchOption (cond b (Some e.1) (lookup (is_at (prefix_cmp p)) es)) (held ≡ false) (λ group. held ≡ list_any hits group)
            → (MatchOption (lookup (is_at (prefix_cmp p)) es) (held ≡ false) (λ group. held ≡ list_any hits group) → held ≡ list_any hits later)
            → held ≡ list_any hits (e.1 ++ later)
        at true t g ih = g ∙ any_front hits e.1 later
            (none_behind p es rest d (other_keys p e.0 (keys_of es) t (sorted_head prefix_cmp e.0 (keys_of es) ordered)) placed.1 bare later_sound)
        at false t g ih = ih g ∙ any_back hits e.1 later
            (none_in (Some e.0) (other_prefix p e.0 d t) e.1 (each_front (λ k. IsRule k.route.rule) e.1 later sound) placed.0)

  no_group : (q : Prefix) → destination_prefix rule ≡ None → destination_prefix rule ≡ Some q → ⊥
  no_group q d e = none-some q (sym d ∙ e)

  -- a key without a destination is among the routes without one
  pub taken_rest : (es : List Entry) (rest : List Kept) → destination_prefix rule ≡ None → ArePlaced es → HaveRules (kept_in es rest)
      → kept_in es (filter passes rest) ≡ filter passes (kept_in es rest)
  taken_rest [] rest d placed sound = refl
  taken_rest (e ∷ es) rest d placed sound =
      ap (λ ks. e.1 ++ ks) (taken_rest es rest d placed.1 (each_back (λ k. IsRule k.route.rule) e.1 (kept_in es rest) sound))
      ∙ left_back hits e.1 (kept_in es rest)
      (none_in (Some e.0) (no_group e.0 d) e.1 (each_front (λ k. IsRule k.route.rule) e.1 (kept_in es rest) sound) placed.0)

  pub held_rest : (es : List Entry) (rest : List Kept) → destination_prefix rule ≡ None → ArePlaced es → HaveRules (kept_in es rest)
      → list_any hits rest ≡ list_any hits (kept_in es rest)
  held_rest [] rest d placed sound = refl
  held_rest (e ∷ es) rest d placed sound = held_rest es rest d placed.1 (each_back (λ k. IsRule k.route.rule) e.1 (kept_in es rest) sound)
      ∙ any_back hits e.1 (kept_in es rest)
      (none_in (Some e.0) (no_group e.0 d) e.1 (each_front (λ k. IsRule k.route.rule) e.1 (kept_in es rest) sound) placed.0)

pub length-filter : {X : Type 0} (p : X → Bool) (xs : List X) → length (filter p xs) ≤ length xs
length-filter p [] = omega arith
length-filter p (x ∷ xs) = at (p x) (length-filter p xs) where
  at : (b : Bool) → length (filter p xs) ≤ length xs → length (cond b (x ∷ filter p xs) (filter p xs)) ≤ suc (length xs)
  at true ih = omega (arith, ih)
  at false ih = omega (arith, ih)
