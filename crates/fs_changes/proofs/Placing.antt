-- Routes in order stand in parts, before a destination, at it and after it.
use Rattle.fs_changes.proofs.Words.{Bool, List, Option, [], ap, ap₂, cond, false, true, true≢false, refl, sym, ℕ, ◌++◌, ◌∙◌, ◌∷◌, ◌≡◌, AllByRecursion}
use Rattle.fs_changes.proofs.Words.{filter, is_eq, is_gt, is_le, is_lt, Ordering, Less, Equal, Greater, Family, FlowRoute, IsRuleOf, AreOrdered}
use Rattle.fs_changes.proofs.Words.{rule_cmp, place_by, AreInOrder}
use Rattle.fs_changes.proofs.{Apart.{key, last_of}, Filters.{Parted, alike, higher, lower}, Spans.{in_order}}

-- each key is at or before those after it
abbrev AreRising : List FlowRoute → Type 0
AreRising [] = Unit {0}
AreRising (r ∷ rs) = AllByRecursion (λ s. is_le (place_by (key s) (key r)) ≡ true) rs × AreRising rs

less_greater_false : Less ≡ Greater → ⊥
less_greater_false e = absurd (true≢false (ap is_lt e))

not_behind : (family : Family) (r s : FlowRoute) → IsRuleOf family r → IsRuleOf family s → rule_cmp r.rule s.rule ≡ Less
    → is_le (place_by (key s) (key r)) ≡ true
not_behind family r s own other less = at (place_by (key s) (key r)) refl where
  at : (o : Ordering) → place_by (key s) (key r) ≡ o → is_le o ≡ true
  at Less e = refl
  at Equal e = refl
  at Greater e = absurd (less_greater_false (sym less ∙ last_of family r s own other e))

each_behind : (family : Family) (r : FlowRoute) (rs : List FlowRoute) → IsRuleOf family r → AllByRecursion (IsRuleOf family) rs
    → AllByRecursion (λ s. rule_cmp r.rule s.rule ≡ Less) rs
    → AllByRecursion (λ s. is_le (place_by (key s) (key r)) ≡ true) rs
each_behind family r [] own each less = tt
each_behind family r (s ∷ rs) own each less = (not_behind family r s own each.0 less.0, each_behind family r rs own each.1 less.1)

rising : (family : Family) (rs : List FlowRoute) → AllByRecursion (IsRuleOf family) rs → AreOrdered rs → AreRising rs
rising family [] each ordered = tt
rising family (r ∷ rs) each ordered = (each_behind family r rs each.0 each.1 ordered.0, rising family rs each.1 ordered.1)

-- What passes no test of a key is left out.
none_of : (test : FlowRoute → Bool) (rs : List FlowRoute) → AllByRecursion (λ s. test s ≡ false) rs → filter test rs ≡ []
none_of test [] each = refl
none_of test (r ∷ rs) each = ap (λ b. cond b (r ∷ filter test rs) (filter test rs)) each.0 ∙ none_of test rs each.1

pub weaker : (P Q : FlowRoute → Type 0) (rs : List FlowRoute) → ((s : FlowRoute) → P s → Q s) → AllByRecursion P rs → AllByRecursion Q rs
weaker P Q [] f each = tt
weaker P Q (r ∷ rs) f each = (f r each.0, weaker P Q rs f each.1)

-- behind one that has the key none is before it; behind one past it all are past it
at_key : (t : Option (ℕ × ℕ)) (r s : FlowRoute) → place_by t (key r) ≡ Equal → is_le (place_by (key s) (key r)) ≡ true → lower place_by key t s ≡ false
at_key t r s e le = at (place_by t (key s)) refl where
  at : (o : Ordering) → place_by t (key s) ≡ o → is_lt o ≡ false
  at Less f = absurd (true≢false (sym le ∙ ap is_le (ap (λ k. place_by (key s) k) (in_order.equal t (key r) e) ∙ in_order.less t (key s) f)))
  at Equal f = refl
  at Greater f = refl

past_key : (t : Option (ℕ × ℕ)) (r s : FlowRoute) → place_by t (key r) ≡ Greater → is_le (place_by (key s) (key r)) ≡ true → place_by t (key s) ≡ Greater
past_key t r s e le = at (place_by (key s) (key r)) refl le where
  at : (o : Ordering) → place_by (key s) (key r) ≡ o → is_le o ≡ true → place_by t (key s) ≡ Greater
  at Less f i = in_order.less (key s) t (in_order.onward (key r) t (key s) (in_order.greater t (key r) e) f)
  at Equal f i = ap (place_by t) (sym (in_order.equal (key s) (key r) f)) ∙ e
  at Greater f i = absurd (true≢false (sym i))

parted_rising : (t : Option (ℕ × ℕ)) (rs : List FlowRoute) → AreRising rs → Parted place_by key t rs
parted_rising t [] h = refl
parted_rising t (r ∷ rs) h = at (place_by t (key r)) refl (parted_rising t rs h.1) where
  lows : List FlowRoute
  lows = filter (lower place_by key t) rs

  sames : List FlowRoute
  sames = filter (alike place_by key t) rs

  highs : List FlowRoute
  highs = filter (higher place_by key t) rs

  at : (o : Ordering) → place_by t (key r) ≡ o → lows ++ (sames ++ highs) ≡ rs
      → cond (is_lt o) (r ∷ lows) lows ++ (cond (is_eq o) (r ∷ sames) sames ++ cond (is_gt o) (r ∷ highs) highs) ≡ r ∷ rs
  at Less e ih = ap (λ xs. r ∷ xs) ih
  at Equal e ih = ap (λ xs. xs ++ (r ∷ (sames ++ highs))) none ∙ ap (λ xs. r ∷ xs) (sym (ap (λ xs. xs ++ (sames ++ highs)) none) ∙ ih) where
    none : lows ≡ []
    none = none_of (lower place_by key t) rs
        (weaker (λ s. is_le (place_by (key s) (key r)) ≡ true) (λ s. lower place_by key t s ≡ false) rs (λ s le. at_key t r s e le) h.0)
  at Greater e ih = ap₂ (λ xs ys. xs ++ (ys ++ (r ∷ highs))) none_low none_same
      ∙ ap (λ xs. r ∷ xs) (sym (ap₂ (λ xs ys. xs ++ (ys ++ highs)) none_low none_same) ∙ ih) where
        none_low : lows ≡ []
        none_low = none_of (lower place_by key t) rs
            (weaker (λ s. is_le (place_by (key s) (key r)) ≡ true) (λ s. lower place_by key t s ≡ false) rs (λ s le. ap is_lt (past_key t r s e le)) h.0)

        none_same : sames ≡ []
        none_same = none_of (alike place_by key t) rs
            (weaker (λ s. is_le (place_by (key s) (key r)) ≡ true) (λ s. alike place_by key t s ≡ false) rs (λ s le. ap is_eq (past_key t r s e le)) h.0)

pub parted : (family : Family) (rs : List FlowRoute) → AreInOrder family rs → (t : Option (ℕ × ℕ)) → Parted place_by key t rs
parted family rs h t = parted_rising t rs (rising family rs h.own h.ordered)
