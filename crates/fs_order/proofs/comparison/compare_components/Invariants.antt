use Rattle.fs_order.proofs.Steps.{Comparing}
use Rattle.fs_order.proofs.comparison.compare_components.Given as goal

abbrev pub invariant-loop-component : goal.invariant-loop-component
invariant-loop-component l = Comparing l.a l.initial.rest l.component-index l.rest
