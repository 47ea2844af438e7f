use Rattle.std.proofs.Common.{length}
use Rattle.fs_ops.proofs.Found.{HasRead}
use Rattle.fs_ops.proofs.reading.read_pairs.Given as goal

abbrev pub invariant-loop-rest : goal.invariant-loop-rest
invariant-loop-rest l = HasRead l.kind l.widths l.octets l.rest l.pairs.items

abbrev pub decreases-loop-rest : goal.decreases-loop-rest
decreases-loop-rest l = length l.rest
