use Rattle.fs_rules.proofs.Words.{ap, sym, ◌∙◌, length, length-map, chosen_in}
use Rattle.fs_rules.proofs.table.Table.count.Goals as goal

pub returns-clause-count : goal.returns-clause-count
returns-clause-count c = c.count.ensures
    ∙ sym (length-map (chosen_in c.args.family c.lend-lent.result.groups.now.entries c.lend-lent.result.rest.now) (λ k. k.route))
    ∙ ap length c.lend-lent.ensures.admits

pub returns-clause-admitted : goal.returns-clause-admitted
returns-clause-admitted c = c.lend-lent.ensures.list c.args.family
