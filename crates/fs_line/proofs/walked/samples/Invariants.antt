use Rattle.fs_line.proofs.Words.{◌≡◌, drop, list_any, has_flag, actions_walked, entries}
use Rattle.fs_line.proofs.walked.samples.Given as goal

abbrev pub invariant-loop-rule : goal.invariant-loop-rule
invariant-loop-rule l =
    list_any (has_flag 2) (actions_walked (entries l.walked)) ≡ list_any (has_flag 2) (actions_walked (entries (drop l.rule-index l.walked)))
