use Rattle.fs_line.proofs.Words.{◌≡◌, ◌≤◌, ◌+◌, ◌*◌, ◌++◌, length, take, RATE, rates_text}
use Rattle.fs_line.proofs.kept.keep_rates_of.Given as goal

abbrev pub invariant-loop-action : goal.invariant-loop-action
invariant-loop-action l =
    (l.output ≡ l.fn.output ++ rates_text (take l.action-index l.action-items)) × (length l.output ≤ length l.fn.output + RATE * l.action-index)
