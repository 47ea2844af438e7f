use Rattle.std.proofs.Common.{◌∙◌}
use Rattle.fs_unicast.proofs.Gap.{alone_between}
use Rattle.fs_unicast.proofs.turns.Turns.is_alone.Goals as goal

pub loop-other-init : goal.loop-other-init
loop-other-init c = alone_between c.args.self.now.places.keys c.into_iter-other-iterator.result c.args.before.now c.args.after.now c.args.turn.now
    (c.into_iter-other-iterator.ensures.into_iter_gives ∙ c.range-other-items.ensures.between tt)
