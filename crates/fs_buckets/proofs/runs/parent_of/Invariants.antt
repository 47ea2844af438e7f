use Rattle.std.proofs.Common.{ℕ, ◌-◌, ◌<◌, ◌≤◌, get_or, length}
use Rattle.fs_buckets.proofs.runs.parent_of.Given as goal

abbrev pub invariant-loop-parent : goal.invariant-loop-parent
invariant-loop-parent l = record {
  after : l.run < l.parent;
  within : l.parent ≤ length l.firsts;
  least : (j : ℕ) → l.run < j → j < l.parent → get_or l.firsts l.run 0 < get_or l.firsts j 0;
}

abbrev pub decreases-loop-parent : goal.decreases-loop-parent
decreases-loop-parent l = length l.firsts - l.parent
