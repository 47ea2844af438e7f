use Rattle.fs_line.proofs.{Words.{◌≡◌, ◌≤◌, ◌+◌, ◌*◌, ◌++◌, length, take, RULE}, Walks.{others_of}}
use Rattle.fs_line.proofs.kept.keep_others.Given as goal

abbrev pub invariant-loop-rule : goal.invariant-loop-rule
invariant-loop-rule l =
    (l.output ≡ l.fn.output ++ others_of (take l.rule-index l.others)) × (length l.output ≤ length l.fn.output + RULE * l.rule-index)
