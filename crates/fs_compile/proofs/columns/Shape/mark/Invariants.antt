use Rattle.fs_compile.proofs.Words.{take, Grown, IsMarked, contains}
use Rattle.fs_compile.proofs.columns.Shape.mark.Given as goal

abbrev pub invariant-loop-range : goal.invariant-loop-range
invariant-loop-range l = record {
  grown : Grown l.initial.rows l.rows;
  marked : IsMarked l.self.bounds.now l.rows l.self.words l.rule (contains (take l.range-index l.ranges));
}
