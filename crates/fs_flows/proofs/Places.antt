-- What the groups of a family tell, and that the admitted rules with one destination are those of its group.
use Rattle.fs_flows.proofs.Words.{◌≡◌, refl, sym, ap, ap₂, ◌∙◌, subst, Bool, true, false, cond, List, [], ◌∷◌, ◌++◌, filter, Option, Some, None}
use Rattle.fs_flows.proofs.Words.{Ordering, Less, Equal, Greater, is_eq, ℕ, length, arith, append-nil, AllByRecursion, is_at, keys_of, lookup}
use Rattle.fs_flows.proofs.Words.{unwrap_or, ordering_reverse, sorted_head, sorted_tail, Family, Prefix, prefix_cmp, prefix_total, each_both}
use Rattle.fs_flows.proofs.Words.{filter_all, filter_none, filter-append, each_filtered, Kept, is_to, AreSorted, chosen, is_chosen, routes_of, Entry}
use Rattle.fs_flows.proofs.Words.{kept_in, IsTo, ArePlaced, AreInOrder, IsGrouped, IsSound, AreLent, chosen_in, group_at}
use Rattle.fs_flows.proofs.{Apart.{each_front, each_back, to_cmp}, Noting.{is_to_by}, Grouping.{chosen_now}}
use Rattle.fs_flows.proofs.{PuttingInGroups.{sorted_groups, sorted_rest}, TakingFromGroups.{length-filter, other_keys}}

is_eq_back : (p q : Prefix) → is_eq (prefix_cmp q p) ≡ is_eq (prefix_cmp p q)
is_eq_back p q = ap is_eq (prefix_total.antisymm q p) ∙ turned (prefix_cmp p q) where
  turned : (o : Ordering) → is_eq (ordering_reverse o) ≡ is_eq o
  turned Less = refl
  turned Equal = refl
  turned Greater = refl

module _ (family : Family) (destination : Option Prefix) where
  abbrev pub stands_here : Kept → Bool
  stands_here k = is_to family destination k.route.rule

  -- the routes to one destination pass, or none does
  each_here : (other : Option Prefix) (b : Bool) → is_eq (to_cmp other destination) ≡ b → (ks : List Kept) → AllByRecursion (IsSound family) ks
      → AllByRecursion (IsTo other) ks → AllByRecursion (λ k. stands_here k ≡ b) (chosen family ks)
  each_here other b e ks sound placed =
      each_filtered (λ k. stands_here k ≡ b) (is_chosen family ks) ks (each_both (IsSound family) (IsTo other) (λ k. stands_here k ≡ b)
      (λ k s d. is_to_by family destination k.route.rule s.family s.rule ∙ ap (λ o. is_eq (to_cmp o destination)) d ∙ e) ks sound placed)

  all_here : (other : Option Prefix) → is_eq (to_cmp other destination) ≡ true → (ks : List Kept) → AllByRecursion (IsSound family) ks
      → AllByRecursion (IsTo other) ks → filter stands_here (chosen family ks) ≡ chosen family ks
  all_here other e ks sound placed = filter_all stands_here (chosen family ks) (each_here other true e ks sound placed)

  none_here : (other : Option Prefix) → is_eq (to_cmp other destination) ≡ false → (ks : List Kept) → AllByRecursion (IsSound family) ks
      → AllByRecursion (IsTo other) ks → filter stands_here (chosen family ks) ≡ []
  none_here other e ks sound placed = filter_none stands_here (chosen family ks) (each_here other false e ks sound placed)

  -- one group, and those behind it
  parts : (e : Entry) (es : List Entry) (rest xs ys : List Kept) → filter stands_here (chosen family e.1) ≡ xs
      → filter stands_here (chosen_in family es rest) ≡ ys → filter stands_here (chosen_in family (e ∷ es) rest) ≡ xs ++ ys
  parts e es rest xs ys h k = filter-append stands_here (chosen family e.1) (chosen_in family es rest) ∙ ap₂ (λ a b. a ++ b) h k

to_none : (family : Family) (es : List Entry) (rest : List Kept) → ArePlaced es → AllByRecursion (IsTo None) rest
    → AllByRecursion (IsSound family) (kept_in es rest) → filter (stands_here family None) (chosen_in family es rest) ≡ chosen family rest
to_none family [] rest placed bare sound = all_here family None None refl rest sound bare
to_none family (e ∷ es) rest placed bare sound =
    parts family None e es rest [] (chosen family rest)
    (none_here family None (Some e.0) refl e.1 (each_front (IsSound family) e.1 (kept_in es rest) sound) placed.0)
    (to_none family es rest placed.1 bare (each_back (IsSound family) e.1 (kept_in es rest) sound))

module _ (family : Family) (p : Prefix) where
  -- behind the groups there is none, nor where no key is the prefix
  to_missing : (es : List Entry) (rest : List Kept) → AllByRecursion (λ q. is_eq (prefix_cmp p q) ≡ false) (keys_of es) → ArePlaced es
      → AllByRecursion (IsTo None) rest → AllByRecursion (IsSound family) (kept_in es rest)
      → filter (stands_here family (Some p)) (chosen_in family es rest) ≡ []
  to_missing [] rest keys placed bare sound = none_here family (Some p) None refl rest sound bare
  to_missing (e ∷ es) rest keys placed bare sound =
      parts family (Some p) e es rest [] []
      (none_here family (Some p) (Some e.0) (is_eq_back p e.0 ∙ keys.0) e.1 (each_front (IsSound family) e.1 (kept_in es rest) sound) placed.0)
      (to_missing es rest keys.1 placed.1 bare (each_back (IsSound family) e.1 (kept_in es rest) sound))

  to_some : (es : List Entry) (rest : List Kept) → AreInOrder es → ArePlaced es → AllByRecursion (IsTo None) rest
      → AllByRecursion (IsSound family) (kept_in es rest)
      → filter (stands_here family (Some p)) (chosen_in family es rest) ≡ chosen family (unwrap_or (lookup (is_at (prefix_cmp p)) es) [])
  to_some [] rest ordered placed bare sound = none_here family (Some p) None refl rest sound bare
  to_some (e ∷ es) rest ordered placed bare sound =
      at (is_eq (prefix_cmp p e.0)) refl (to_some es rest (sorted_tail prefix_cmp e.0 (keys_of es) ordered) placed.1 bare behind) where
        front : AllByRecursion (IsSound family) e.1
        front = each_front (IsSound family) e.1 (kept_in es rest) sound

        behind : AllByRecursion (IsSound family) (kept_in es rest)
        behind = each_back (IsSound family) e.1 (kept_in es rest) sound

        at : (b : Bool) → is_eq (prefix_cmp p e.0) ≡ b
            → filter (stands_here family (Some p)) (chosen_in family es rest) ≡ chosen family (unwrap_or (lookup (is_at (prefix_cmp p)) es) [])
            → filter (stands_here family (Some p)) (chosen_in family (e ∷ es) rest)
            ≡ chosen family (unwrap_or (cond b (Some e.1) (lookup (is_at (prefix_cmp p)) es)) [])
        at true t ih = parts family (Some p) e es rest (chosen family e.1) [] (all_here family (Some p) (Some e.0) (is_eq_back p e.0 ∙ t) e.1 front placed.0)
            (to_missing es rest (other_keys p e.0 (keys_of es) t (sorted_head prefix_cmp e.0 (keys_of es) ordered)) placed.1 bare behind)
            ∙ append-nil (chosen family e.1)
        at false t ih = parts family (Some p) e es rest [] (chosen family (unwrap_or (lookup (is_at (prefix_cmp p)) es) []))
            (none_here family (Some p) (Some e.0) (is_eq_back p e.0 ∙ t) e.1 front placed.0) ih

module _ (family : Family) {es : List Entry} {rest now : List Kept} {bound : ℕ} (g : IsGrouped es rest bound) (v : kept_in es rest ≡ now)
    (sound : AllByRecursion (IsSound family) now) where
  group_chosen : (destination : Option Prefix)
      → chosen family (group_at destination es rest) ≡ filter (λ k. is_to family destination k.route.rule) (chosen family now)
  group_chosen destination = sym (at destination) ∙ ap (filter (stands_here family destination)) (chosen_now g family family v sound) where
    all : AllByRecursion (IsSound family) (kept_in es rest)
    all = subst (AllByRecursion (IsSound family)) (sym v) sound

    at : (d : Option Prefix) → filter (stands_here family d) (chosen_in family es rest) ≡ chosen family (group_at d es rest)
    at None = to_none family es rest g.placed g.bare all
    at (Some p) = to_some family p es rest g.ordered g.placed g.bare all

  -- What is lent to be read.
  pub lent_now : AreSorted (routes_of now) → AreLent family (chosen family now) now es rest
  lent_now sorted = record {
    sorted = sorted_groups es rest before;
    bare = sorted_rest es rest before;
    few = omega (arith, ap length whole, length-filter (is_chosen family now) now, ap length v, g.most, g.small);
    whole = whole;
    to = group_chosen;
    routes = v;
  } where
    whole : chosen_in family es rest ≡ chosen family now
    whole = chosen_now g family family v sound

    before : AreSorted (routes_of (kept_in es rest))
    before = subst (λ ks. AreSorted (routes_of ks)) (sym v) sorted
