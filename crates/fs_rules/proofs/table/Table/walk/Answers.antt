use Rattle.fs_rules.proofs.Words.{ap, ◌∙◌, admitted, next_match}
use Rattle.fs_rules.proofs.table.Table.walk.Goals as goal

pub returns : goal.returns
returns c = c.next_match.ensures
    ∙ ap (next_match c.args.view.now c.args.n) (c.lend-lent.ensures.admits ∙ ap (λ f. admitted f c.args.self.now) c.family-family.ensures)
