use Rattle.fs_desk.proofs.{Words.{ap, ◌∙◌, held_count, Watched}}
use Rattle.fs_desk.proofs.receive.take_update.Goals as goal

pub returns-in-Ok-clause-told : goal.returns-in-Ok-clause-told
returns-in-Ok-clause-told g c = λ base h. c.in_ok-drop_routes.ensures.told base (c.in_ok-apply.ensures.told base h)

pub returns-in-Ok-clause-idle : goal.returns-in-Ok-clause-idle
returns-in-Ok-clause-idle g c = λ idle none.
    let same = c.in_ok-apply.ensures.idle idle in
    c.drop_routes.ensures.idle (ap (λ (w : Watched). held_count c.args.peer w.table) same ∙ none) ∙ ap (λ (w : Watched). w.changes) same
