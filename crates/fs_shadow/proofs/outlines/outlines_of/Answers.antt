use Rattle.fs_shadow.proofs.Words.{arith, shown_lent, each_pushed, IsOutlineOf}
use Rattle.fs_shadow.proofs.outlines.outlines_of.Goals as goal

pub loop-admitted-preserved : goal.loop-admitted-preserved
loop-admitted-preserved c =
    each_pushed IsOutlineOf shown_lent c.args.list.now c.loop-admitted.admitted-index c.admitted-item.result c.loop-admitted.outlines.items
    c.push.new.self.items c.in_ok-of.field-0
    (omega (arith, c.loop-admitted-test.true)) c.admitted-item.is c.in_ok-push.ensures.items c.loop-admitted.invariant c.in_ok-of.ensures
