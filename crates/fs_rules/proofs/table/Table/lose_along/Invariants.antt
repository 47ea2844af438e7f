use Rattle.fs_rules.proofs.{Words.{drop, IsStrictlySortedBy, keys_of, place_cmp, AreAmong, Covers, Held, StayThroughout}, Losing.{IsLosing}, Quiet.{IsQuiet}}
use Rattle.fs_rules.proofs.table.Table.lose_along.Given as goal

abbrev pub invariant-loop-key : goal.invariant-loop-key
invariant-loop-key g l = record {
  losing : IsLosing l.peer l.fn.self l.self l.fn.steps l.steps;
  among : AreAmong l.peer (drop l.key-index l.prefixes) l.self.unicast;
  ordered : IsStrictlySortedBy place_cmp (keys_of l.self.unicast);
  covers : (base : Held) → Covers base l.fn.changes l.fn.self → Covers base l.changes l.self;
  quiet : StayThroughout l.peer l.fn.self → IsQuiet l.peer l.self l.fn.changes l.changes;
}
