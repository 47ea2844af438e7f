use Rattle.std.proofs.Common.{◌∙◌, sym}
use Rattle.fs_actions.proofs.Insertion.{action_held, action_placed, searchable}
use Rattle.fs_actions.proofs.actions.insert.Goals as goal

pub returns-in-Ok-clause-ok : goal.returns-in-Ok-clause-ok
returns-in-Ok-clause-ok c =
    rw (← c.deref.ensures.value) (sym
    (action_held c.args.action c.deref.result.now _ c.in-Ok.ensures.bound (rw c.deref.ensures.value c.requires.rising) c.in-Ok.ensures.ok))

pub returns-in_ok-insert-in-Err-clause-ok : goal.returns-in_ok-insert-in-Err-clause-ok
returns-in_ok-insert-in-Err-clause-ok c =
    let e = c.deref.ensures.value in
    let point = c.in-Err.ensures.position (rw e (searchable c.args.action c.args.list.now.items c.requires.rising)) in
    c.in_ok-insert-in-Err.ensures.items ∙ rw (← e) (sym (action_placed c.args.action c.deref.result.now c.in-Err.place c.in-Err.ensures.bound point.0 point.1))
