use Rattle.fs_buckets.proofs.Words.{◌≡◌, ℕ, ◌+◌, Option, List, length, all_admitted, width_in, spans_of, Adds, RunsOf}
use Rattle.fs_buckets.proofs.runs.add_each.Given as goal

abbrev pub invariant-loop-admitted : goal.invariant-loop-admitted
invariant-loop-admitted l = record {
  runs : (spans : List (Option (ℕ × ℕ)))
      → RunsOf spans l.initial.runs → Adds (spans_of (all_admitted l.list)) (length l.initial.runs.homes.items) spans → RunsOf spans l.runs;
  one : length l.runs.homes.items ≡ length l.initial.runs.homes.items + l.admitted-index;
  width : width_in l.runs.lasts ≡ width_in l.initial.runs.lasts;
}
