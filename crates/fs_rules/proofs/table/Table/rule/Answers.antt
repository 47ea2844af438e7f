use Rattle.fs_rules.proofs.{Words.{ap, ◌∙◌, option_map, slice_get, listed, chosen_in}, Chosen.{get-routes}}
use Rattle.fs_rules.proofs.table.Table.rule.Goals as goal

pub returns-clause-rule : goal.returns-clause-rule
returns-clause-rule c = c.admitted_at.ensures
    ∙ get-routes (chosen_in c.args.family c.lend-lent.result.groups.now.entries c.lend-lent.result.rest.now) c.args.n
    ∙ ap (λ rs. option_map listed (slice_get rs c.args.n)) c.lend-lent.ensures.admits

pub returns-clause-admitted : goal.returns-clause-admitted
returns-clause-admitted c = c.lend-lent.ensures.list c.args.family
