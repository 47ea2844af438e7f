use Rattle.fs_ranges.proofs.Words.{◌≡◌, ℕ, ◌<◌, Bool, true, false, true≢false, ◌&&◌, List, get_or, length, refl, sym, ◌∙◌, list_all, list_all_at, and_comm}

-- Laws of truth values, and of tests of numbers.

pub and_swap : (a x c : Bool) → ((a && x) && c) ≡ ((a && c) && x)
and_swap true x c = and_comm x c
and_swap false x c = refl

-- what all pass each passes
pub holds_at : {X : Type 0} (p : X → Bool) (xs : List X) (i : ℕ) (d : X) → i < length xs → list_all p xs ≡ true → p (get_or xs i d) ≡ true
holds_at p xs i d below h = by (p (get_or xs i d)) refl where
  by : (b : Bool) → p (get_or xs i d) ≡ b → p (get_or xs i d) ≡ true
  by true e = e
  by false e = absurd (true≢false (sym h ∙ list_all_at p xs i d below e))
