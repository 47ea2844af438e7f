use Rattle.fs_line.{proofs.{Words.{◌≤◌, ◌+◌, ◌*◌, length, take, LINE, RATE, RULE}, Walks.{acting}}, specs.declared.output.TheConstants.{CAPACITY}}
use Rattle.fs_line.proofs.line.longest_line.Given as goal

-- what was reckoned is enough for the rules up to here
abbrev pub invariant-loop-rule : goal.invariant-loop-rule
invariant-loop-rule l =
    l.octets ≤ CAPACITY → LINE + (RULE * l.rule-index + RATE * length (acting (take l.rule-index l.walked))) ≤ l.octets
