use Rattle.fs_ranges.proofs.Placing.{Compiling}
use Rattle.fs_ranges.proofs.fast.tests_of.Given as goal

abbrev pub invariant-loop-component : goal.invariant-loop-component
invariant-loop-component l = Compiling l.components l.component-index l.used l.ranges l.tests.items
