use Rattle.fs_rules.proofs.{Words.{◌≡◌, ◌+◌, length, drop, flat, AreEachSorted, chosen_flat, chosen}, InParts.{next_in}}
use Rattle.fs_rules.proofs.blocks.next_match.Given as goal

abbrev pub invariant-loop-block : goal.invariant-loop-block
invariant-loop-block l = record {
  found : next_in l.view l.n l.number (chosen_flat l.family (drop l.block-index l.blocks)) ≡ next_in l.view l.n l.first (chosen l.family (flat l.blocks));
  number : l.number + length (chosen_flat l.family (drop l.block-index l.blocks)) ≡ l.first + length (chosen l.family (flat l.blocks));
  sorted : AreEachSorted (drop l.block-index l.blocks);
}
