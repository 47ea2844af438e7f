-- That routes stay grouped.
use Rattle.fs_flows.proofs.Words.{ℕ, ◌≡◌, ◌+◌, ◌≤◌, ◌<◌, ◌^◌, refl, sym, ap, subst, ◌∙◌, Bool, List, [], ◌∷◌, filter, length, Some, None, Ordering}
use Rattle.fs_flows.proofs.Words.{Less, Equal, Greater, arith, AllByRecursion, length-map, keys_of, match_ordering, ordering_reverse, sorted_head}
use Rattle.fs_flows.proofs.Words.{sorted_tail, Config, Family, Prefix, prefix_cmp, prefix_total, each_weaker, each_filtered, Route, Ruled, IsRule}
use Rattle.fs_flows.proofs.Words.{destination_prefix, is_related, Kept, put_kept, mended, chosen, is_other_key, HaveRules, Entry, kept_in, IsTo}
use Rattle.fs_flows.proofs.Words.{ArePlaced, AreInOrder, IsSound, IsGrouped, put_entry, keep_at, keep_each, Mends, MendsKept, Progress, chosen_in}
use Rattle.fs_flows.proofs.PuttingInGroups.{put_entries, put_rest, put_placed, each_entry, length-put}
use Rattle.fs_flows.proofs.TakingFromGroups.{kept_each, placed_each, placed_at, sorted_at, parts_sorted, taken_kept, taken_rest, length-filter}
use Rattle.fs_flows.proofs.Mending.{mended_in, marks_kept, right_where, mends_placed, mends_ordered, size_related}
use Rattle.fs_flows.proofs.{ChosenParts.{chosen_groups}, Changed.{each-put}}

sorted_entry : (p : Prefix) (k : Kept) (es : List Entry) → AreInOrder es → AreInOrder (put_entry p k es)
sorted_entry p k [] h = parts_sorted p [] tt h
sorted_entry p k (e ∷ es) h = at (prefix_cmp p e.0) refl (sorted_entry p k es (sorted_tail prefix_cmp e.0 (keys_of es) h)) where
  heads : AllByRecursion (λ q. prefix_cmp e.0 q ≡ Less) (keys_of es)
  heads = sorted_head prefix_cmp e.0 (keys_of es) h

  at : (o : Ordering) → prefix_cmp p e.0 ≡ o → AreInOrder (put_entry p k es)
      → AreInOrder (match_ordering o ((p, k ∷ []) ∷ e ∷ es) ((e.0, put_kept k e.1) ∷ es) (e ∷ put_entry p k es))
  at Less less ih = parts_sorted p (e.0 ∷ keys_of es) (
    less,
    each_weaker (λ q. prefix_cmp e.0 q ≡ Less) (λ q. prefix_cmp p q ≡ Less) (λ q g. prefix_total.trans p e.0 q less g) (keys_of es) heads,
  ) h
  at Equal same ih = h
  at Greater more ih = parts_sorted e.0 (keys_of (put_entry p k es))
      (each_entry (λ q. prefix_cmp e.0 q ≡ Less) p k es (prefix_total.antisymm e.0 p ∙ ap ordering_reverse more) heads) ih

module _ {es : List Entry} {rest : List Kept} {bound : ℕ} (g : IsGrouped es rest bound) where
  -- at most one route more, or none
  few_put : (k : Kept) (now : List Kept) (most : ℕ) → now ≡ put_kept k (kept_in es rest) → most ≡ bound + 1 → length now ≤ most
  few_put k now most e m = omega (arith, ap length e, length-put k (kept_in es rest), g.most, m)

  pub few_left : (keeps : Kept → Bool) (now : List Kept) → now ≡ filter keeps (kept_in es rest) → length now ≤ bound
  few_left keeps now e = omega (arith, ap length e, length-filter keeps (kept_in es rest), g.most)

  module _ (family : Family) (k : Kept) (h : IsSound family k) (sound : AllByRecursion (IsSound family) (kept_in es rest)) {most : ℕ}
      (m : most ≡ bound + 1) (small : most < 2 ^ 64) where
    pub grouped_put : (p : Prefix) → IsTo (Some p) k → {new : List Entry} → new ≡ put_entry p k es → IsGrouped new rest most
    grouped_put p d {new} e = record {
      ordered = subst AreInOrder (sym e) (sorted_entry p k es g.ordered);
      placed = subst ArePlaced (sym e) (put_placed p k es d g.placed);
      bare = g.bare;
      most = few_put k (kept_in new rest) most (ap (λ fs. kept_in fs rest) e ∙ put_entries family p k es rest h d g.ordered g.placed g.bare sound) m;
      small = small;
    }

    pub grouped_rest : IsTo None k → {new : List Kept} → new ≡ put_kept k rest → IsGrouped es new most
    grouped_rest d {new} e = record {
      ordered = g.ordered;
      placed = g.placed;
      bare = subst (AllByRecursion (IsTo None)) (sym e) (each-put (IsTo None) k d rest g.bare);
      most = few_put k (kept_in es new) most (ap (kept_in es) e ∙ put_rest family k es rest h d g.placed sound) m;
      small = small;
    }

  module _ (rule : Ruled) (peer : ℕ) (h : IsRule rule) (sound : HaveRules (kept_in es rest)) where
    pub grouped_taken : (p : Prefix) → destination_prefix rule ≡ Some p → {new : List Entry} → new ≡ keep_at p (is_other_key rule peer) es
        → IsGrouped new rest bound
    grouped_taken p d {new} e = record {
      ordered = subst AreInOrder (sym e) (sorted_at p (is_other_key rule peer) es g.ordered);
      placed = subst ArePlaced (sym e) (placed_at p (is_other_key rule peer) es g.placed);
      bare = g.bare;
      most = few_left (is_other_key rule peer) (kept_in new rest) (ap (λ fs. kept_in fs rest) e
          ∙ taken_kept rule peer h p es rest d g.ordered g.placed g.bare sound);
      small = g.small;
    }

    pub grouped_taken_rest : destination_prefix rule ≡ None → {new : List Kept} → new ≡ filter (is_other_key rule peer) rest → IsGrouped es new bound
    grouped_taken_rest d {new} e = record {
      ordered = g.ordered;
      placed = g.placed;
      bare = subst (AllByRecursion (IsTo None)) (sym e) (each_filtered (IsTo None) (is_other_key rule peer) rest g.bare);
      most = few_left (is_other_key rule peer) (kept_in es new) (ap (kept_in es) e ∙ taken_rest rule peer h es rest d g.placed sound);
      small = g.small;
    }

  module _ (keeps : Kept → Bool) {new : List Entry} {left : List Kept} (e : new ≡ keep_each keeps es) (f : left ≡ filter keeps rest) where
    pub kept_left : kept_in new left ≡ filter keeps (kept_in es rest)
    kept_left = ap (λ fs. kept_in fs left) e ∙ ap (kept_in (keep_each keeps es)) f ∙ kept_each keeps es rest

    pub grouped_kept : AreInOrder new → IsGrouped new left bound
    grouped_kept ordered = record {
      ordered = ordered;
      placed = subst ArePlaced (sym e) (placed_each keeps es g.placed);
      bare = subst (AllByRecursion (IsTo None)) (sym f) (each_filtered (IsTo None) keeps rest g.bare);
      most = few_left keeps (kept_in new left) kept_left;
      small = g.small;
    }

  pub chosen_now : (family f : Family) {now : List Kept} → kept_in es rest ≡ now → AllByRecursion (IsSound f) now → chosen_in family es rest ≡ chosen family now
  chosen_now family f v sound = chosen_groups family f es rest g.ordered g.placed g.bare (subst (AllByRecursion (IsSound f)) (sym v) sound)
      ∙ ap (chosen family) v

module _ (unicast : List Route) (config : Config) (p : Prefix) {old new : Progress} (rest : List Kept) (bound : ℕ)
    (g : IsGrouped old.groups rest bound) (m : Mends unicast config (is_related p) old new) where
  pub mends_kept : MendsKept p unicast config (kept_in old.groups rest) (kept_in new.groups rest) old.noted new.noted old.steps new.steps
  mends_kept = record {
    kept = ap (λ fs. kept_in fs rest) m.entries ∙ mended_in unicast config p old.groups rest g.placed g.bare;
    stays = m.stays;
    marked = marks_kept unicast config p old.groups rest new.noted g.placed g.bare m.marks;
    quiet = λ r. m.quiet (right_where unicast config p old.groups rest g.placed r);
    later = m.later;
    steps = omega (arith, m.steps, size_related unicast config p old.groups rest g.placed);
  }

  pub grouped_mended : IsGrouped new.groups rest bound
  grouped_mended = record {
    ordered = mends_ordered unicast config (is_related p) m g.ordered;
    placed = mends_placed unicast config (is_related p) m g.placed;
    bare = g.bare;
    most = omega (arith, ap length mends_kept.kept, length-map before (mended p unicast config), g.most);
    small = g.small;
  } where
    before : List Kept
    before = kept_in old.groups rest
