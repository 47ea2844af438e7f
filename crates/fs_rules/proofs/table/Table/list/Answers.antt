use Rattle.fs_rules.proofs.{Words.{ap, ◌∙◌, ◌++◌, map, shown_in, chosen_in}, Chosen.{map-map}}
use Rattle.fs_rules.proofs.table.Table.list.Goals as goal

pub returns-clause-list : goal.returns-clause-list
returns-clause-list g c = c.in_ok-push_admitted.ensures
    ∙ ap (λ items. map g.T.OfKept.shown items
    ++ shown_in g.T.OfKept.shows c.args.family c.lend-lent.result.groups.now.entries c.lend-lent.result.rest.now) c.new-list.ensures.items
    ∙ map-map (λ k. k.route) g.T.OfKept.shows (chosen_in c.args.family c.lend-lent.result.groups.now.entries c.lend-lent.result.rest.now)
    ∙ ap (map g.T.OfKept.shows) c.lend-lent.ensures.admits

pub returns-clause-admitted : goal.returns-clause-admitted
returns-clause-admitted g c = c.lend-lent.ensures.list c.args.family

pub returns-clause-rules : goal.returns-clause-rules
returns-clause-rules g c = c.lend-lent.ensures.rules c.args.family
