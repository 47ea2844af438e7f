use Rattle.fs_buckets.proofs.Words.{◌≡◌, ℕ, ◌+◌, Option, List, length, width_in, Keeps, RunsOf}
use Rattle.fs_buckets.proofs.runs.keep_runs.Given as goal

abbrev pub invariant-loop-number : goal.invariant-loop-number
invariant-loop-number l = record {
  runs : (spans : List (Option (ℕ × ℕ)))
      → RunsOf spans l.initial.runs → Keeps l.old l.from l.to (length l.initial.runs.homes.items) spans → RunsOf spans l.runs;
  one : length l.runs.homes.items + l.from ≡ length l.initial.runs.homes.items + l.number;
  width : width_in l.runs.lasts ≡ width_in l.initial.runs.lasts;
}
