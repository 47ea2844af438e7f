use Rattle.std.proofs.Common.{◌≡◌, ◌++◌, take, drop, map}
use Rattle.fs_ops.proofs.Normal.{with_bits}
use Rattle.fs_ops.proofs.pairs.keep_bits.Given as goal

abbrev pub invariant-loop-value : goal.invariant-loop-value
invariant-loop-value l = l.pairs ≡ map (with_bits l.bits) (take l.value-index l.initial.pairs) ++ drop l.value-index l.initial.pairs
