use Rattle.fs_rules.proofs.{Words.{ap, ◌∙◌, ◌++◌, map, chosen, shown_chosen, group_at}, Chosen.{map-map}}
use Rattle.fs_rules.proofs.table.Table.list_to.Goals as goal

pub returns-clause-list : goal.returns-clause-list
returns-clause-list g c = c.in_ok-push_admitted_to.ensures
    ∙ ap (λ items. map g.T.OfKept.shown items
    ++ shown_chosen g.T.OfKept.shows c.args.family (group_at c.args.destination c.lend-lent.result.groups.now.entries c.lend-lent.result.rest.now))
    c.new-list.ensures.items
    ∙ map-map (λ k. k.route) g.T.OfKept.shows
    (chosen c.args.family (group_at c.args.destination c.lend-lent.result.groups.now.entries c.lend-lent.result.rest.now))
    ∙ ap (map g.T.OfKept.shows) (c.lend-lent.ensures.to c.args.destination)
