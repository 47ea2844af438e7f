use Rattle.fs_text.proofs.{Words.{refl, subst, ReadsAbove}, Stepped.{bad_act_value}}
use Rattle.fs_text.proofs.steps.next_action.Goals as goal

pub returns-in-None-clause-fault : goal.returns-in-None-clause-fault
returns-in-None-clause-fault c =
    bad_act_value c.args.actions.now c.args.place c.in-Some.name.now c.in-Some-word_at.value.now _ _ _ c.in-Some.ensures.some c.in-Some-word_at.ensures.some
    (c.if-not-can_stand.ensures.yes refl)
    (subst (ReadsAbove c.args.actions.now c.in-Some.name.now c.in-Some-word_at.value.now) c.in-None.is c.in_ok-action.ensures.read)
