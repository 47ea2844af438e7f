use Rattle.fs_rules.proofs.{Words.{length, Covers, Held, StayThroughout}, Losing.{IsLosing, Passed}, Quiet.{IsQuiet}}
use Rattle.fs_rules.proofs.table.Table.lose_each.Given as goal

abbrev pub invariant-loop-prefix : goal.invariant-loop-prefix
invariant-loop-prefix g l = record {
  losing : IsLosing l.peer l.fn.self l.self l.fn.steps l.steps;
  passed : Passed l.peer l.from l.self.unicast;
  covers : (base : Held) → Covers base l.fn.changes l.fn.self → Covers base l.changes l.self;
  quiet : StayThroughout l.peer l.fn.self → IsQuiet l.peer l.self l.fn.changes l.changes;
}

abbrev pub decreases-loop-prefix : goal.decreases-loop-prefix
decreases-loop-prefix g l = length l.self.unicast
