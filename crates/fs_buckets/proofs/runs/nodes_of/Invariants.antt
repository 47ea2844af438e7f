use Rattle.fs_buckets.proofs.{Words.{ℕ, ◌<◌, ◌^◌, get_or, length, node_width, nodes_in}, Running.{AreNodesTo}}
use Rattle.fs_buckets.proofs.runs.nodes_of.Given as goal

abbrev pub invariant-loop-run : goal.invariant-loop-run
invariant-loop-run l = record {
  nodes : AreNodesTo l.runs.firsts.items l.runs.starts.items l.parents l.run (nodes_in l.nodes);
  width : (i : ℕ) → i < length l.runs.firsts.items → get_or l.runs.firsts.items i 0 < 2 ^ node_width l.nodes;
}
