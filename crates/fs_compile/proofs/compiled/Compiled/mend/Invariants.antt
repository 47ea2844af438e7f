use Rattle.std.proofs.Common.{drop}
use Rattle.fs_compile.proofs.MatcherMending.{Mends}
use Rattle.fs_compile.proofs.compiled.Compiled.mend.Given as goal

abbrev pub invariant-loop-place : goal.invariant-loop-place
invariant-loop-place l = Mends l.changes (drop l.place-index l.places) l.table l.fn.self l.self
