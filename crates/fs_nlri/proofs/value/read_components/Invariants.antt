use Rattle.fs_nlri.proofs.{Words.{length, parts_of}, ValueSteps.{HasRead}}
use Rattle.fs_nlri.proofs.value.read_components.Given as goal

abbrev pub invariant-loop-rest : goal.invariant-loop-rest
invariant-loop-rest l = HasRead l.family l.octets l.rest l.last (parts_of l.components.items)

abbrev pub decreases-loop-rest : goal.decreases-loop-rest
decreases-loop-rest l = length l.rest
