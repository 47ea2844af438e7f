-- Components are compared one by one.
use Rattle.fs_order.proofs.Words.{◌≡◌, ℕ, ◌≤◌, List, [], ◌∷◌, length, drop, sym, ap, ◌∙◌, ◌==◌, false, true≢false, Greater, parts_of, parts_cmp, AreSound}
use Rattle.std.proofs.Math.ListN.{drop_of_length-le}
use Rattle.fs_nlri.specs.declared.component.Component.{Component}

-- the components before the index are equal to those before the rest
pub record Comparing (a b : List Component) (index : ℕ) (rest : List Component) : Type 0 where
  pub same : parts_cmp (parts_of (drop index a)) (parts_of rest) ≡ parts_cmp (parts_of a) (parts_of b)
  pub sound : AreSound (parts_of (drop index a))
  pub others : AreSound (parts_of rest)

-- a ended
a_ended : (a b : List Component) (index : ℕ) (rest : List Component) → length a ≤ index → Comparing a b index rest
    → parts_cmp [] (parts_of rest) ≡ parts_cmp (parts_of a) (parts_of b)
a_ended a b index rest l h = ap (λ (xs : List Component). parts_cmp (parts_of xs) (parts_of rest)) (sym (drop_of_length-le a l)) ∙ h.same

-- b goes on
pub b_longer : (a b : List Component) (index : ℕ) (rest : List Component) → length a ≤ index → (length rest == 0) ≡ false → Comparing a b index rest
    → Greater ≡ parts_cmp (parts_of a) (parts_of b)
b_longer a b index [] l e h = absurd (true≢false e)
b_longer a b index (other ∷ others) l e h = a_ended a b index (other ∷ others) l h
