use Rattle.std.proofs.Common.{◌+◌, arith, refl}
use Rattle.fs_ranges.proofs.Placing.{at_index, compiled_all, compiled_more, compiled_none}
use Rattle.fs_ranges.proofs.fast.tests_of.Goals as goal

pub loop-component-init : goal.loop-component-init
loop-component-init c = compiled_none c.args.components.now c.free-ranges.result c.new-tests.result.items c.free-ranges.ensures
    c.new-tests.ensures.items c.requires

pub loop-component-preserved : goal.loop-component-preserved
loop-component-preserved c =
    compiled_more c.args.components.now c.loop-component.component-index (c.loop-component.component-index + 1) c.loop-component.used
    c.in_ok-used.used c.component-item.result c.loop-component.ranges c.place.new.ranges
    c.loop-component.tests.items c.place.new.tests.items c.in_ok-test.test
    (at_index c.args.components.now c.loop-component.component-index (c.loop-component.component-index + 1) c.component-item.result
    c.component-item.is (omega arith) refl)
    c.loop-component.invariant c.in_ok-test.ensures c.in_ok-used.ensures.placed c.in_ok-used.ensures.free

pub returns : goal.returns
returns c =
    rw c.shrink_to_fit.ensures.items
    (compiled_all c.args.components.now c.loop-component.component-index c.loop-component.used c.loop-component.ranges c.loop-component.tests.items
    (omega arith) c.loop-component.invariant)
