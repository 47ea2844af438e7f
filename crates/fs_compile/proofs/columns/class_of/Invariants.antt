use Rattle.std.proofs.Common.{◌+◌}
use Rattle.fs_buckets.specs.Between.{IsBetween}
use Rattle.fs_compile.proofs.columns.class_of.Given as goal

abbrev pub invariant-halves : goal.invariant-halves
invariant-halves l = IsBetween l.bounds l.number l.class (l.class + l.size)

abbrev pub decreases-halves : goal.decreases-halves
decreases-halves l = l.size
