use Rattle.fs_conf.proofs.Words.{◌≡◌, ◌++◌, drop, option_map, items_view, each_item}
use Rattle.fs_conf.proofs.array.each_item.Given as goal

-- what was said so far stands before what the items left say
abbrev pub invariant-loop-item : goal.invariant-loop-item
invariant-loop-item g l =
    each_item g.T.OfItem.says (items_view l.items)
    ≡ option_map (λ more. l.list.items ++ more) (each_item g.T.OfItem.says (items_view (drop l.item-index l.items)))
