use Rattle.fs_buckets.specs.Buckets.{AreChanged, beside}
use Rattle.fs_buckets.proofs.nodes.name_parents.Given as goal

abbrev pub invariant-loop-number : goal.invariant-loop-number
invariant-loop-number g l = AreChanged 0 l.number (beside l.place l.low) l.fn.nodes l.nodes
