use Rattle.fs_shadow.proofs.{Words.{arith, part_of, each_pushed, IsMeasureOf}, Measuring.{sound_at}}
use Rattle.fs_shadow.proofs.outlines.measures_of.Goals as goal

pub of-requires : goal.of-requires
of-requires c = sound_at c.args.components.now c.loop-component.component-index c.component-item.result
    (omega (arith, c.loop-component-test.true)) c.component-item.is c.requires

pub loop-component-preserved : goal.loop-component-preserved
loop-component-preserved c =
    each_pushed IsMeasureOf part_of c.args.components.now c.loop-component.component-index c.component-item.result c.loop-component.measures.items
    c.push.new.self.items c.in_ok-of.field-0
    (omega (arith, c.loop-component-test.true)) c.component-item.is c.in_ok-push.ensures.items c.loop-component.invariant c.in_ok-of.ensures
