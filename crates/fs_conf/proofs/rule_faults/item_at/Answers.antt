use Rattle.fs_conf.proofs.RulesJudging.{item_of}
use Rattle.fs_conf.proofs.rule_faults.item_at.Goals as goal

pub returns : goal.returns
returns c = item_of c.args.items.now c.args.place c.get.result c.get.ensures.lookup.0 c.get.ensures.lookup.1
