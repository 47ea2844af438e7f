use Rattle.fs_flows.proofs.Words.{◌≡◌, ◌↔◌, false, map, take, drop, ◌++◌, AreJudged, rejudged}
use Rattle.fs_flows.proofs.block.retest_each.Given as goal

abbrev pub invariant-loop-k : goal.invariant-loop-k
invariant-loop-k l = record {
  kept : l.kept ≡ map (rejudged l.config l.basis) (take l.k-index l.fn.kept) ++ drop l.k-index l.fn.kept;
  told : (l.changed ≡ false) ↔ AreJudged l.config l.basis (take l.k-index l.fn.kept);
}
