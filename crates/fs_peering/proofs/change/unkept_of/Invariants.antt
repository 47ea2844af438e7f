use Rattle.fs_peering.proofs.Words.{◌≡◌, ◌++◌, length}
use Rattle.fs_peering.specs.{Change.{unkept}, Keeper.{of_family}}
use Rattle.fs_peering.proofs.change.unkept_of.Given as goal

-- with those of the rules that are left, all are there
abbrev pub invariant-loop-rest : goal.invariant-loop-rest
invariant-loop-rest l = l.rules.items ++ of_family l.family (unkept l.kept l.rest) ≡ of_family l.family (unkept l.kept l.old)

abbrev pub decreases-loop-rest : goal.decreases-loop-rest
decreases-loop-rest l = length l.rest
