use Rattle.fs_ranges.proofs.Words.{◌≡◌, ◌++◌, map, drop, All, lone, IsRange}
use Rattle.fs_ranges.proofs.singles.lone_ranges.Given as goal

abbrev pub invariant-loop-value : goal.invariant-loop-value
invariant-loop-value l = record {
  items : l.ranges.items ++ map lone (drop l.value-index l.pairs) ≡ map lone l.pairs;
  ranges : All IsRange l.ranges.items;
}
