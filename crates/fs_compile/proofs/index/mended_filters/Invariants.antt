use Rattle.fs_compile.proofs.Words.{List, All, Fast, IsFilter}
use Rattle.std.specs.Vec.Iter.{into_iter_items}
use Rattle.fs_compile.proofs.index.mended_filters.Given as goal

abbrev pub invariant-loop-filter : goal.invariant-loop-filter
invariant-loop-filter l = record {
  runs : All (IsFilter l.rules) l.runs.items;
  left : (before : List Fast) → All (IsFilter before) l.fn.old.runs.items → All (IsFilter before) (into_iter_items l.filter-iterator);
}
