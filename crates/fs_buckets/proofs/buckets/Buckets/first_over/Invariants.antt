use Rattle.fs_buckets.proofs.Words.{ℕ, ◌-◌, ◌<◌, ◌≤◌, length, nodes_in, numbers_in, node_at}
use Rattle.fs_buckets.proofs.buckets.Buckets.first_over.Given as goal

abbrev pub invariant-loop-parent : goal.invariant-loop-parent
invariant-loop-parent l = record {
  after : l.bucket ≤ l.parent;
  within : l.parent ≤ length (numbers_in l.self.lasts);
  least : (j : ℕ) → l.bucket ≤ j → j < l.parent → l.first < (node_at (nodes_in l.self.nodes) j).first;
}

abbrev pub decreases-loop-parent : goal.decreases-loop-parent
decreases-loop-parent l = length (numbers_in l.self.lasts) - l.parent
