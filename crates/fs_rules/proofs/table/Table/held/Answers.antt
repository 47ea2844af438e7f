use Rattle.fs_rules.proofs.Words.{ap, ◌∙◌, ◌++◌, map, shown_held, judgements_in}
use Rattle.fs_rules.proofs.table.Table.held.Goals as goal

pub returns-clause-list : goal.returns-clause-list
returns-clause-list c = c.in_ok-push_held.ensures
    ∙ ap (λ items. map shown_held items ++ judgements_in c.lend-lent.result.groups.now.entries c.lend-lent.result.rest.now) c.new-list.ensures.items
    ∙ c.lend-lent.ensures.judges
