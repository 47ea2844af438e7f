-- The pairs of a list as they are kept: one in itself, or a vector of them.
use Rattle.std.specs.Prelude.{ℕ, List, [], ◌∷◌}
use Rattle.fs_ops.specs.declared.pairs.Stored.{Stored, TheVariants.{One, Many}}

abbrev pub kept_pairs : Stored → List (ℕ × ℕ)
kept_pairs (One pair) = pair ∷ []
kept_pairs (Many pairs) = pairs.items
