use Rattle.fs_actions.proofs.Words.{◌≡◌, drop, first_of, redirect_of}
use Rattle.fs_actions.proofs.actions.Actions.redirect.Given as goal

-- what is left says what the whole list says
abbrev pub invariant-loop-action : goal.invariant-loop-action
invariant-loop-action l = first_of redirect_of (drop l.action-index l.action-items) ≡ first_of redirect_of l.self
