use Rattle.fs_rules.proofs.Words.{◌≡◌, slice_get, drop, flat, AreEachSorted, chosen_flat, chosen}
use Rattle.fs_rules.proofs.blocks.admitted_at.Given as goal

abbrev pub invariant-loop-block : goal.invariant-loop-block
invariant-loop-block l = record {
  found : slice_get (chosen_flat l.family (drop l.block-index l.blocks)) l.left ≡ slice_get (chosen l.family (flat l.blocks)) l.n;
  sorted : AreEachSorted (drop l.block-index l.blocks);
}
