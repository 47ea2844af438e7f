use Rattle.fs_ops.proofs.Words.{◌≡◌, ◌++◌, take, canonical}
use Rattle.fs_ops.proofs.writing.append.Given as goal

abbrev pub invariant-loop-operator : goal.invariant-loop-operator
invariant-loop-operator l = l.out.items ≡ l.initial.out.items ++ canonical (take l.operator-index l.pairs)
