-- A list's numbers, group by group (RFC 8955 section 4.2.1.1): those of which an earlier group holds, and those that the
-- group in hand misses.
use Rattle.std.specs.Prelude.{◌≡◌, ℕ, ◌+◌, ◌-◌, ◌^◌, ◌==◌, not, ◌&&◌, ◌||◌, List, [], ◌∷◌, if◌then◌else◌}
use Rattle.fs_ops.specs.{Operator.{joins}, Evaluation.{has_bit}}
use Rattle.fs_ranges.specs.Spans.{contains}

-- of a number: unless the operator joins the group in hand, that is one of the earlier groups now, and misses nothing
pub record EndsGroup (operator n : ℕ) (missed held missed' held' : List (ℕ × ℕ)) : Type 0 where
  pub earlier : contains held' n ≡ (contains held n || (not (joins operator) && not (contains missed n)))
  pub ended : contains missed' n ≡ (joins operator && contains missed n)

-- the numbers below its value, if the pair misses these
abbrev pub missed_below : ℕ × ℕ → List (ℕ × ℕ)
missed_below pair = if has_bit pair.0 4 || (pair.1 == 0) then [] else (0, pair.1 - 1) ∷ []

-- the value, if it misses that
abbrev pub missed_at : ℕ × ℕ → List (ℕ × ℕ)
missed_at pair = if has_bit pair.0 1 then [] else (pair.1, pair.1) ∷ []

-- those above it, up to 2^64 - 1, if it misses these
abbrev pub missed_above : ℕ × ℕ → List (ℕ × ℕ)
missed_above pair = if has_bit pair.0 2 || (pair.1 == 2 ^ 64 - 1) then [] else (pair.1 + 1, 2 ^ 64 - 1) ∷ []
