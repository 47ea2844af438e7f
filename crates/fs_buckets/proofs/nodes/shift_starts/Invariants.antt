use Rattle.fs_buckets.specs.Buckets.{AreChanged, moved}
use Rattle.fs_buckets.proofs.nodes.shift_starts.Given as goal

abbrev pub invariant-loop-place : goal.invariant-loop-place
invariant-loop-place g l = AreChanged l.from l.place (λ _. moved l.down l.up) l.fn.nodes l.nodes
