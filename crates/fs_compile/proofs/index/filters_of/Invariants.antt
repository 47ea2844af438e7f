use Rattle.fs_compile.proofs.Words.{All, IsFilter}
use Rattle.fs_compile.proofs.index.filters_of.Given as goal

abbrev pub invariant-loop-bucket : goal.invariant-loop-bucket
invariant-loop-bucket l = All (IsFilter l.rules) l.runs.items
