use Rattle.fs_ranges.proofs.Words.{◌≡◌, drop, are_singles}
use Rattle.fs_ranges.proofs.singles.are_singles.Given as goal

abbrev pub invariant-loop-operator : goal.invariant-loop-operator
invariant-loop-operator l = are_singles l.low (drop l.operator-index l.pairs) ≡ are_singles 0 l.pairs
