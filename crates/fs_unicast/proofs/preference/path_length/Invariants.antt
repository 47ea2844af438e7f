use Rattle.fs_unicast.proofs.Words.{◌≡◌, ◌≤◌, ◌+◌, ◌*◌, ◌-◌, ◌^◌, drop, path_length}
use Rattle.fs_unicast.proofs.preference.path_length.Given as goal

abbrev pub invariant-loop-segment : goal.invariant-loop-segment
invariant-loop-segment l = record {
  sum : l.total + path_length (drop l.segment-index l.segments) ≡ path_length l.segments;
  small : l.total ≤ l.segment-index * (2 ^ 64 - 1);
}
