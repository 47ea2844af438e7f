use Rattle.fs_line.proofs.Words.{◌≡◌, true, take, AllByRecursion, is_discard}
use Rattle.fs_line.proofs.line.discards_alone.Given as goal

abbrev pub invariant-loop-action : goal.invariant-loop-action
invariant-loop-action l = AllByRecursion (λ action. is_discard action ≡ true) (take l.action-index l.actions)
