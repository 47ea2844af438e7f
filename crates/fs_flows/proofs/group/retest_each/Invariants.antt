use Rattle.fs_flows.proofs.Words.{◌≡◌, ◌↔◌, false, map, take, drop, ◌++◌, AllByRecursion, AreJudged, rejudged}
use Rattle.fs_flows.proofs.group.retest_each.Given as goal

abbrev pub invariant-loop-block : goal.invariant-loop-block
invariant-loop-block l = record {
  blocks : l.blocks ≡ map (map (rejudged l.config l.basis)) (take l.block-index l.fn.blocks) ++ drop l.block-index l.fn.blocks;
  told : (l.changed ≡ false) ↔ AllByRecursion (AreJudged l.config l.basis) (take l.block-index l.fn.blocks);
}
