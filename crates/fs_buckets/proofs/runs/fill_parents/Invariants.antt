use Rattle.fs_buckets.proofs.Words.{◌≡◌, ◌≤◌, length, ArePlain}
use Rattle.fs_buckets.proofs.runs.fill_parents.Given as goal

abbrev pub invariant-loop-run : goal.invariant-loop-run
invariant-loop-run l = record {
  within : l.run ≤ length l.firsts;
  size : length l.parents ≡ length l.firsts;
  plain : ArePlain l.firsts l.parents l.run;
}

abbrev pub decreases-loop-run : goal.decreases-loop-run
decreases-loop-run l = l.run
