use Rattle.fs_compile.proofs.Words.{take, all_admitted, StandForEach}
use Rattle.fs_compile.proofs.index.compiled_rules.Given as goal

abbrev pub invariant-loop-admitted : goal.invariant-loop-admitted
invariant-loop-admitted l = StandForEach (all_admitted (take l.admitted-index l.list)) l.rules.items
