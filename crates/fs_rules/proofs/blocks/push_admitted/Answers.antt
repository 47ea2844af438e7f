use Rattle.fs_rules.proofs.{Words.{ap, ◌++◌, map, sorted_each}, InParts.{chosen_whole}}
use Rattle.fs_rules.proofs.blocks.push_admitted.Goals as goal

pub loop-block-init : goal.loop-block-init
loop-block-init g c = record {
  list = ap (λ ks. map g.T.OfKept.shown c.args.list.now.items ++ map (λ k. g.T.OfKept.shows k.route) ks)
      (chosen_whole c.args.family c.args.blocks.now c.requires.cut);
  sorted = sorted_each c.args.blocks.now c.requires.sorted;
}
