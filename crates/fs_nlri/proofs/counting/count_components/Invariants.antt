use Rattle.std.proofs.Common.{◌≤◌, length}
use Rattle.fs_nlri.proofs.counting.count_components.Given as goal

abbrev pub invariant-loop-rest : goal.invariant-loop-rest
invariant-loop-rest l = l.count ≤ 13

abbrev pub decreases-loop-rest : goal.decreases-loop-rest
decreases-loop-rest l = length l.rest
