use Rattle.fs_line.proofs.{Words.{subst, arith, take_all, SaysDiscard}, Discarding.{AllDiscard, nonempty, says_discard}}
use Rattle.fs_line.proofs.line.discards_alone.Goals as goal

pub returns : goal.returns
returns c = λ some.
    subst SaysDiscard c.as_slice-actions.ensures.value
    (says_discard c.as_slice-actions.result.now
    (subst AllDiscard (take_all c.loop-action.action-index c.as_slice-actions.result.now (omega (arith, c.loop-action-test.false))) c.loop-action.invariant)
    (nonempty c.as_slice-actions.result.now c.is_empty.result c.is_empty.ensures some))
