use Rattle.fs_compile.proofs.Words.{AreMarked, AreRowsOf}
use Rattle.fs_compile.proofs.columns.Column.of.Given as goal

abbrev pub invariant-loop-number : goal.invariant-loop-number
invariant-loop-number l = record {
  shaped : AreRowsOf l.shape.bounds.now l.marks l.shape.words;
  marked : AreMarked l.run.rules.now l.run.first l.number l.field l.shape.bounds.now l.marks l.shape.words;
}
