use Rattle.fs_attrs.proofs.Words.{[], length, Appends}
use Rattle.fs_attrs.proofs.routes.read_rules.Given as goal

abbrev pub invariant-loop-rest : goal.invariant-loop-rest
invariant-loop-rest l = Appends l.family l.octets l.rest [] l.rules.items

abbrev pub decreases-loop-rest : goal.decreases-loop-rest
decreases-loop-rest l = length l.rest
