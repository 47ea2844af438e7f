use Rattle.fs_conf.proofs.{Words.{◌∙◌, arith}, Items.{item_read}}
use Rattle.fs_conf.proofs.array.each_item.Goals as goal

pub loop-item-preserved : goal.loop-item-preserved
loop-item-preserved g c =
    c.loop-item.invariant
    ∙ item_read g.T.OfItem.says c.args.items.now c.loop-item.item-index c.item-item.result c.loop-item.list.items _ c.in_ok-own.own (omega arith)
    c.item-item.is c.in_ok-own.ensures.ok c.in_ok-keep.ensures
