use Rattle.fs_nlri.proofs.Words.{◌≡◌, drop, all_allowed}
use Rattle.fs_nlri.proofs.given.are_allowed.Given as goal

abbrev pub invariant-loop-operator : goal.invariant-loop-operator
invariant-loop-operator l = all_allowed l.widths (drop l.operator-index l.pairs) ≡ all_allowed l.widths l.pairs
