use Rattle.fs_line.proofs.{Words.{◌≡◌, ◌≤◌, ◌+◌, ◌*◌, ◌++◌, length, take, drop, RATE}, Walks.{acting, rates_of}}
use Rattle.fs_line.proofs.kept.keep_rates.Given as goal

abbrev pub invariant-loop-rule : goal.invariant-loop-rule
invariant-loop-rule l =
    (l.output ≡ l.fn.output ++ rates_of (take l.rule-index l.walked))
    × (length l.output + RATE * length (acting (drop l.rule-index l.walked)) ≤ length l.fn.output + RATE * length (acting l.walked))
