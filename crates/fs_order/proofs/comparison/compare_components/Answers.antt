use Rattle.std.proofs.Common.{◌∙◌, sym, arith}
use Rattle.fs_order.proofs.Steps.{b_longer}
use Rattle.fs_order.proofs.comparison.compare_components.Goals as goal

pub returns-else-is_empty : goal.returns-else-is_empty
returns-else-is_empty c =
    b_longer c.args.a.now c.args.b.now c.loop-component.component-index c.loop-component.rest.now (omega arith) (sym c.is_empty.ensures
    ∙ c.if-is_empty.false) c.loop-component.invariant
