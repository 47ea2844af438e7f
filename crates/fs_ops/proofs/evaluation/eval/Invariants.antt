use Rattle.fs_ops.proofs.{Words.{◌≡◌, drop, holds, test_of}, Groups.{answers}}
use Rattle.fs_ops.proofs.evaluation.eval.Given as goal

-- what is left answers for the whole list
abbrev pub invariant-loop-operator : goal.invariant-loop-operator
invariant-loop-operator l = answers (test_of l.kind l.datum) l.all (drop l.operator-index l.pairs) ≡ holds (test_of l.kind l.datum) l.pairs
