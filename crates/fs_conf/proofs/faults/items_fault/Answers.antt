use Rattle.fs_conf.proofs.{Words.{Some, sym, ap, ◌∙◌}, Judging.{items_within, items_without, or_shown}}
use Rattle.fs_conf.specs.Fault.{KeyFault, spot_shown}
use Rattle.fs_conf.proofs.faults.items_fault.Goals as goal

pub returns-then-is_count : goal.returns-then-is_count
returns-then-is_count c =
    or_shown spot_shown c.or.result c.each_peer.result c.repeated.result _ _ c.or.ensures c.each_peer.ensures c.repeated.ensures
    ∙ sym (items_within c.args.items.now c.if-is_count.ensures)

pub returns-else-is_count : goal.returns-else-is_count
returns-else-is_count c = ap (λ (fault : KeyFault). Some fault) c.own_fault.ensures ∙ sym (items_without c.args.items.now c.if-is_count.ensures)
