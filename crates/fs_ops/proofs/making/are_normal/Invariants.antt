use Rattle.fs_ops.proofs.Words.{length, meant_bits, AreNormal}
use Rattle.std.specs.Prelude.{◌↔◌}
use Rattle.fs_ops.proofs.making.are_normal.Given as goal

-- the whole is in normal form exactly where what is left is
abbrev pub invariant-loop-operator : goal.invariant-loop-operator
invariant-loop-operator l = AreNormal (meant_bits l.kind) l.pairs ↔ AreNormal (meant_bits l.kind) l.rest

abbrev pub decreases-loop-operator : goal.decreases-loop-operator
decreases-loop-operator l = length l.rest
