use Rattle.fs_compile.proofs.Words.{◌+◌, ◌-◌, ◌/◌, ◌^◌, ◌<◌, ◌≤◌, min, Missed, first_at, tests_of}
use Rattle.fs_compile.proofs.filters.Rows.scan.Given as goal

abbrev pub invariant-words : goal.invariant-words
invariant-words g l = record {
  low : (l.from - l.self.first) / 64 ≤ l.place;
  small : first_at l.self l.place < 2 ^ 64;
  missed : Missed (tests_of l.tested) l.from (min (first_at l.self l.place) l.to);
  later : l.initial.steps ≤ l.steps;
  steps : l.steps ≤ l.initial.steps + (min (first_at l.self l.place) l.to - l.from);
}

abbrev pub decreases-words : goal.decreases-words
decreases-words g l = l.to - (first_at l.self l.place)
