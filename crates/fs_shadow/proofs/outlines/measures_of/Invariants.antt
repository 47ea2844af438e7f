use Rattle.fs_shadow.proofs.Words.{take, parts_of, AreMeasuresOf}
use Rattle.fs_shadow.proofs.outlines.measures_of.Given as goal

abbrev pub invariant-loop-component : goal.invariant-loop-component
invariant-loop-component l = AreMeasuresOf (parts_of (take l.component-index l.components)) l.measures.items
