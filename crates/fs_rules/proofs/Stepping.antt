-- What a list still has from a place on.
use Rattle.std.proofs.Common.{ℕ, suc, ◌≡◌, ◌+◌, ◌<◌, ap, sym, ◌∙◌, List, ◌∷◌, length, get_or, drop, drop-cons, arith}

pub rest_is : {X : Type 0} (ks : List X) (i : ℕ) (k : X) → i < length ks → k ≡ get_or ks i k → drop i ks ≡ k ∷ drop (i + 1) ks
rest_is ks i k h e = drop-cons ks i k h ∙ ap (λ x. x ∷ drop (suc i) ks) (sym e) ∙ ap (λ n. k ∷ drop n ks) next where
  next : suc i ≡ i + 1
  next = omega arith
