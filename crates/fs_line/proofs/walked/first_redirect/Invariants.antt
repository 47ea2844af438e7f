use Rattle.fs_line.proofs.Words.{◌≡◌, drop, first_of, redirect_of, actions_walked, entries}
use Rattle.fs_line.proofs.walked.first_redirect.Given as goal

abbrev pub invariant-loop-rule : goal.invariant-loop-rule
invariant-loop-rule l =
    first_of redirect_of (actions_walked (entries l.walked)) ≡ first_of redirect_of (actions_walked (entries (drop l.rule-index l.walked)))
