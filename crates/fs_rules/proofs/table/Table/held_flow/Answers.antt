use Rattle.fs_rules.proofs.Words.{ap, sym, ◌∙◌, slice_get, slice_get-map, kept_in, judgement}
use Rattle.fs_rules.proofs.table.Table.held_flow.Goals as goal

pub returns-clause-held : goal.returns-clause-held
returns-clause-held c = c.held_at.ensures
    ∙ sym (slice_get-map judgement (kept_in c.lend-lent.result.groups.now.entries c.lend-lent.result.rest.now) c.args.n)
    ∙ ap (λ xs. slice_get xs c.args.n) c.lend-lent.ensures.judges
