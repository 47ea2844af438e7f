use Rattle.fs_rules.proofs.Words.{◌≡◌, ◌++◌, map, drop, flat, AreEachSorted, chosen_flat, chosen}
use Rattle.fs_rules.proofs.blocks.push_admitted.Given as goal

abbrev pub invariant-loop-block : goal.invariant-loop-block
invariant-loop-block g l = record {
  list : map g.T.OfKept.shown l.list.items ++ map (λ k. g.T.OfKept.shows k.route) (chosen_flat l.family (drop l.block-index l.blocks))
      ≡ map g.T.OfKept.shown l.fn.list.items ++ map (λ k. g.T.OfKept.shows k.route) (chosen l.family (flat l.blocks));
  sorted : AreEachSorted (drop l.block-index l.blocks);
}
