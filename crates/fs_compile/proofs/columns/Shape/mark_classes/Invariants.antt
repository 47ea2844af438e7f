use Rattle.fs_compile.proofs.Words.{◌≡◌, ◌<◌, ◌≤◌, ℕ, Grown, bit_in}
use Rattle.fs_compile.proofs.columns.Shape.mark_classes.Given as goal

abbrev pub invariant-loop-class : goal.invariant-loop-class
invariant-loop-class l = record {
  grown : Grown l.initial.rows l.rows;
  marked : (class : ℕ) → l.low ≤ class → class < l.class → bit_in l.rows l.self.words class l.rule ≡ 1;
}
