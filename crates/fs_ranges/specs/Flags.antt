-- Lists of TCP flags of a simple form.
use Rattle.std.specs.Prelude.{ℕ, Bool, false, not, ◌&&◌, ◌==◌, List, [], ◌∷◌}
use Rattle.fs_ops.specs.Evaluation.{has_bit}

-- the operator says that all bits of its value are set, and no more (RFC 8955 section 4.2.1.2)
abbrev pub is_match : ℕ → Bool
is_match operator = not (has_bit operator 2) && has_bit operator 1

-- it says that SYN is set, and no more
abbrev pub is_syn : List (ℕ × ℕ) → Bool
is_syn [] = false
is_syn (pair ∷ []) = is_match pair.0 && (pair.1 == 2)
is_syn (pair ∷ next ∷ pairs) = false
