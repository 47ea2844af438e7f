use Rattle.fs_compile.proofs.Words.{◌+◌, ◌-◌, ◌≤◌, min, Missed, tests_of}
use Rattle.fs_compile.proofs.tested.Tested.scan.Given as goal

abbrev pub invariant-loop-number : goal.invariant-loop-number
invariant-loop-number g l = record {
  missed : Missed (tests_of l.self) l.from l.number;
  later : l.initial.steps ≤ l.steps;
  steps : l.steps ≤ l.initial.steps + (min l.number l.to - l.from);
}
