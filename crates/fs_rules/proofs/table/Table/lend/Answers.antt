use Rattle.fs_rules.proofs.Chosen.{told_now}
use Rattle.fs_rules.proofs.table.Table.lend.Goals as goal

pub returns : goal.returns
returns c = told_now c.args.family c.self.inside.config.now c.self.inside.unicast c.self.inside.flows _ _ c.args.self.now c.self.invariant.keeps
    c.self.view_is c.lend.ensures.lent c.lend.ensures.rules
