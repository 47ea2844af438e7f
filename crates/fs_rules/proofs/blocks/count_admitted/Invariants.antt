use Rattle.fs_rules.proofs.Words.{◌≡◌, ◌+◌, length, drop, flat, AreEachSorted, chosen_flat, chosen}
use Rattle.fs_rules.proofs.blocks.count_admitted.Given as goal

abbrev pub invariant-loop-block : goal.invariant-loop-block
invariant-loop-block l = record {
  counted : l.count + length (chosen_flat l.family (drop l.block-index l.blocks)) ≡ length (chosen l.family (flat l.blocks));
  sorted : AreEachSorted (drop l.block-index l.blocks);
}
