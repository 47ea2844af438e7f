-- The order of places.
use Rattle.fs_unicast.proofs.Words.{◌≡◌, ◌⊎◌, inl, inr, refl, sym, ap, ◌∙◌, Bool, true, false, true≢false, not, Ordering, Less, Equal, Greater, is_eq}
use Rattle.fs_unicast.proofs.Words.{is_le, is_lt, ordering_reverse, ordering_then, IsTotalOrder, alike_right, tied_itself, on_total, then_total}
use Rattle.fs_unicast.proofs.Words.{nat_cmp_total, and_both, and_first, and_second, true_of_not, ap₂, prefix_cmp, prefix_total, equal_of_is_eq}
use Rattle.fs_unicast.proofs.Words.{less_of_is_lt, same_from_cmp, Place, place_cmp, lies_between}
use Rattle.std.{specs.Ordering.{nat_cmp}, proofs.lemmas.Map.Lookups.{exact_unsigned}}

pub place_total : IsTotalOrder place_cmp
place_total = then_total (on_total (λ p. p.prefix) prefix_total) (on_total (λ p. p.peer) nat_cmp_total)

pub falsified : (b : Bool) → (b ≡ true → true ≡ false) → b ≡ false
falsified true h = h refl
falsified false h = refl

pub lt_le : (o : Ordering) → is_lt o ≡ true → is_le o ≡ true
lt_le Less h = refl
lt_le Equal h = refl
lt_le Greater h = absurd (true≢false (sym h))

-- below, then up to
pub below_upto : (x y z : Place) → is_lt (place_cmp x y) ≡ true → is_le (place_cmp y z) ≡ true → is_lt (place_cmp x z) ≡ true
below_upto x y z h k = at (place_cmp y z) refl k where
  at : (o : Ordering) → place_cmp y z ≡ o → is_le o ≡ true → is_lt (place_cmp x z) ≡ true
  at Less e l = ap is_lt (place_total.trans x y z (less_of_is_lt (place_cmp x y) h) e)
  at Equal e l = sym (ap is_lt (alike_right place_total y z x e)) ∙ h
  at Greater e l = absurd (true≢false (sym l))

-- up to, then below
pub upto_below : (x y z : Place) → is_le (place_cmp x y) ≡ true → is_lt (place_cmp y z) ≡ true → is_lt (place_cmp x z) ≡ true
upto_below x y z h k = at (place_cmp x y) refl h where
  at : (o : Ordering) → place_cmp x y ≡ o → is_le o ≡ true → is_lt (place_cmp x z) ≡ true
  at Less e l = ap is_lt (place_total.trans x y z e (less_of_is_lt (place_cmp y z) k))
  at Equal e l = ap is_lt (place_total.congr x y z e) ∙ k
  at Greater e l = absurd (true≢false (sym l))

pub upto_upto : (x y z : Place) → is_le (place_cmp x y) ≡ true → is_le (place_cmp y z) ≡ true → is_le (place_cmp x z) ≡ true
upto_upto x y z h k = at (place_cmp x y) refl h where
  at : (o : Ordering) → place_cmp x y ≡ o → is_le o ≡ true → is_le (place_cmp x z) ≡ true
  at Less e l = lt_le (place_cmp x z) (below_upto x y z (ap is_lt e) k)
  at Equal e l = ap is_le (place_total.congr x y z e) ∙ k
  at Greater e l = absurd (true≢false (sym l))

reversed : (o : Ordering) → is_lt (ordering_reverse o) ≡ not (is_le o)
reversed Less = refl
reversed Equal = refl
reversed Greater = refl

-- below is not up to the other way
pub below_not_upto : (x y : Place) → is_lt (place_cmp x y) ≡ not (is_le (place_cmp y x))
below_not_upto x y = ap is_lt (place_total.antisymm x y) ∙ reversed (place_cmp y x)

pub not_below : (x y : Place) → is_lt (place_cmp x y) ≡ false → is_le (place_cmp y x) ≡ true
not_below x y h = true_of_not (is_le (place_cmp y x)) (sym (below_not_upto x y) ∙ h)

pub below_itself : (x : Place) → is_lt (place_cmp x x) ≡ false
below_itself x = ap is_lt (tied_itself place_total x)

pub upto_itself : (x : Place) → is_le (place_cmp x x) ≡ true
upto_itself x = ap is_le (tied_itself place_total x)

pub equal_upto : (x y : Place) → place_cmp x y ≡ Equal → is_le (place_cmp x y) ≡ true
equal_upto x y e = ap is_le e

pub equal_back : (x y : Place) → place_cmp x y ≡ Equal → is_le (place_cmp y x) ≡ true
equal_back x y e = ap is_le (place_total.antisymm y x ∙ ap ordering_reverse e)

-- the same as facts
abbrev pub lt : Place → Place → Type 0
lt a b = is_lt (place_cmp a b) ≡ true

abbrev pub le : Place → Place → Type 0
le a b = is_le (place_cmp a b) ≡ true

pub apart : (a b : Place) → lt a b ⊎ le b a
apart a b = at (is_lt (place_cmp a b)) refl where
  at : (t : Bool) → is_lt (place_cmp a b) ≡ t → lt a b ⊎ le b a
  at true e = inl e
  at false e = inr (not_below a b e)

pub never : (a b : Place) → lt a b → le b a → ⊥
never a b h k = true≢false (sym (below_upto a b a h k) ∙ below_itself a)

-- places that compare alike are one
pub exact_place : (a b : Place) → is_eq (place_cmp a b) ≡ true → a ≡ b
exact_place a b h = at (prefix_cmp a.prefix b.prefix) refl h where
  at : (o : Ordering) → prefix_cmp a.prefix b.prefix ≡ o → is_eq (ordering_then o (nat_cmp a.peer b.peer)) ≡ true → a ≡ b
  at Less e k = absurd (true≢false (sym k))
  at Equal e k = ap₂ (λ p n. record { prefix = p; peer = n }) (same_from_cmp a.prefix b.prefix (ap is_eq e))
      (exact_unsigned a.peer b.peer (equal_of_is_eq (nat_cmp a.peer b.peer) k))
  at Greater e k = absurd (true≢false (sym k))

-- what lies between two places is after the one and not after the other
pub lies_in : (x y t : Place) → lt x t → le t y → lies_between x y t ≡ true
lies_in x y t h k = and_both (is_lt (place_cmp x t)) (is_le (place_cmp t y)) h k

pub lies_above : (x y t : Place) → lies_between x y t ≡ true → lt x t
lies_above x y t h = and_first (is_lt (place_cmp x t)) (is_le (place_cmp t y)) h

pub lies_upto : (x y t : Place) → lies_between x y t ≡ true → le t y
lies_upto x y t h = and_second (is_lt (place_cmp x t)) (is_le (place_cmp t y)) h
