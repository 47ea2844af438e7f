use Rattle.fs_actions.proofs.Words.{◌≡◌, drop, first_of, mark_of}
use Rattle.fs_actions.proofs.actions.Actions.mark.Given as goal

-- what is left says what the whole list says
abbrev pub invariant-loop-action : goal.invariant-loop-action
invariant-loop-action l = first_of mark_of (drop l.action-index l.action-items) ≡ first_of mark_of l.self
