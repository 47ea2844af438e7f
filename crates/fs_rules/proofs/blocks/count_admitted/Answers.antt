use Rattle.fs_rules.proofs.{Words.{ap, ◌∙◌, length, zero-add, sorted_each}, InParts.{chosen_whole}}
use Rattle.fs_rules.proofs.blocks.count_admitted.Goals as goal

pub loop-block-init : goal.loop-block-init
loop-block-init c = record {
  counted = zero-add _ ∙ ap length (chosen_whole c.args.family c.args.blocks.now c.requires.cut);
  sorted = sorted_each c.args.blocks.now c.requires.sorted;
}
