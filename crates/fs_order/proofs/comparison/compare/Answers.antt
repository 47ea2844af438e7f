use Rattle.fs_order.proofs.comparison.compare.Goals as goal

pub compare_components-requires-clause-a : goal.compare_components-requires-clause-a
compare_components-requires-clause-a c = rw c.components-components.ensures.parts c.components-components.ensures.sound

pub compare_components-requires-clause-b : goal.compare_components-requires-clause-b
compare_components-requires-clause-b c = rw c.components-others.ensures.parts c.components-others.ensures.sound
