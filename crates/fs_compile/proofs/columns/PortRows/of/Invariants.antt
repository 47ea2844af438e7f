use Rattle.fs_compile.proofs.Words.{ArePortsMarked, AreRowsOf}
use Rattle.fs_compile.proofs.columns.PortRows.of.Given as goal

abbrev pub invariant-loop-number : goal.invariant-loop-number
invariant-loop-number l = record {
  to : AreRowsOf l.destination l.to_marks l.words;
  from : AreRowsOf l.source l.from_marks l.words;
  marked : ArePortsMarked l.run.rules.now l.run.first l.number l.destination l.source l.to_marks l.from_marks l.words;
}
