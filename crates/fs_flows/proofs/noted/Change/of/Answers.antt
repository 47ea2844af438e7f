use Rattle.fs_flows.proofs.Noting.{own_place, stands_at}
use Rattle.fs_flows.proofs.noted.Change.of.Goals as goal

pub returns-clause-place : goal.returns-clause-place
returns-clause-place c = stands_at c.family.result c.destination.result c.args.rule.now c.family.ensures c.destination.ensures.value c.destination.ensures.rule

pub returns-clause-own : goal.returns-clause-own
returns-clause-own c = own_place c.family.result c.destination.result c.args.rule.now c.family.ensures c.destination.ensures.value c.destination.ensures.rule
