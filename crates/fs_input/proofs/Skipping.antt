use Rattle.fs_input.proofs.Words.{◌≡◌, ℕ, List, ◌≤◌, ◌+◌, length, drop, window}

-- Octets that are skipped piece by piece.

-- so many octets were taken
pub record Skipped (limit taken taken' n : ℕ) (left left' : List ℕ) : Type 0 where
  pub within : n ≤ length (window limit taken left)
  pub place : taken' ≡ taken + n
  pub rest : left' ≡ drop n left
