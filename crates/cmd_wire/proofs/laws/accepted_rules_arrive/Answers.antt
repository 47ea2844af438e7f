use Rattle.cmd_wire.proofs.Arrivable.{can_arrive}
use Rattle.cmd_wire.proofs.laws.accepted_rules_arrive.Goals as goal

pub returns : goal.returns
returns c = can_arrive
