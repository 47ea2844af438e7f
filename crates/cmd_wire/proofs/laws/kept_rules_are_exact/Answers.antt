use Rattle.cmd_wire.proofs.KeptExactly.{kept_exactly}
use Rattle.cmd_wire.proofs.laws.kept_rules_are_exact.Goals as goal

pub returns : goal.returns
returns c = kept_exactly
