use Rattle.fs_shadow.proofs.Words.{take, all_admitted, AreOutlinesOf}
use Rattle.fs_shadow.proofs.outlines.outlines_of.Given as goal

abbrev pub invariant-loop-admitted : goal.invariant-loop-admitted
invariant-loop-admitted l = AreOutlinesOf (all_admitted (take l.admitted-index l.list)) l.outlines.items
