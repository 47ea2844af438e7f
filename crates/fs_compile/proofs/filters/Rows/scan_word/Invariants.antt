use Rattle.fs_compile.proofs.{Words.{◌+◌, ◌-◌, ◌^◌, ◌<◌, ◌≤◌, min, Missed, first_at, tests_of}, Sieving.{AreLeft}}
use Rattle.fs_compile.proofs.filters.Rows.scan_word.Given as goal

abbrev pub invariant-candidates : goal.invariant-candidates
invariant-candidates g l = record {
  from : l.from ≤ l.number;
  small : l.number < 2 ^ 34;
  rest : l.rest < 2 ^ 64;
  left : AreLeft (tests_of l.tested) l.rest l.number (min l.to (first_at l.self l.place + 64));
  missed : Missed (tests_of l.tested) l.from (min l.number (min l.to (first_at l.self l.place + 64)));
  later : l.initial.steps ≤ l.steps;
  steps : l.steps ≤ l.initial.steps + (min l.number (min l.to (first_at l.self l.place + 64)) - l.from);
}

abbrev pub decreases-candidates : goal.decreases-candidates
decreases-candidates g l = (min l.to (first_at l.self l.place + 64)) - l.number
