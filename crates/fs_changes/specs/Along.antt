-- Who applies the lines that are told, one change of the held routes after the other.
use Rattle.std.specs.Prelude.{ℕ, zero, suc, ◌+◌, ◌<◌, List, [], ◌++◌}
use Rattle.fs_base.specs.declared.prefix.Family.{Family}
use Rattle.fs_rules.specs.Table.{Held, admitted}
use Rattle.fs_changes.specs.{Difference.{Line, Make}, Changes.{Act, AreRules, acts_of, changes}}

-- the admitted rules of a family, with their actions
abbrev pub acts : Family → Held → List Act
acts family held = acts_of (admitted family held)

-- the lines of a family after so many changes and these rules: those of each of so many further ones
abbrev pub lines_of : Family → (ℕ → Held) → ℕ → (old : List Act) → (count : ℕ) → List (Line Act)
lines_of family held k old zero = []
lines_of family held k old (suc count) =
    changes 0 old (acts family (held (k + 1))) ++ lines_of family held (k + 1) (acts family (held (k + 1))) count

-- Whoever begins with no rule and applies the lines of a family that so many first changes tell holds exactly its
-- admitted rules after the last of them, in their order, with their actions; and each line fits.
abbrev pub Follows : Type 0
Follows =
    (family : Family) (held : ℕ → Held) (count : ℕ)
    → ((k : ℕ) → k < suc count → AreRules (acts family (held (k + 1))))
    → Make (lines_of family held 0 [] (suc count)) [] (acts family (held (suc count)))
