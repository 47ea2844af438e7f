use Rattle.fs_peering.proofs.KeeperWords.{ap, not, refl, sym, subst, ◌∙◌, Fits}
use Rattle.fs_peering.proofs.Stepped.{asked_as, begin_this, line_no, line_of, line_rests}
use Rattle.fs_peering.proofs.keeper.Keeper.begin.Goals as goal

pub returns-in_default-clause-took : goal.returns-in_default-clause-took
returns-in_default-clause-took g c =
    line_no _ _ _ _ _ _ c.self.view_is c.in_default.is

pub invariant_of-self-then-not-is_due_at : goal.invariant_of-self-then-not-is_due_at
invariant_of-self-then-not-is_due_at g c =
    subst (Fits c.self.inside.config.now c.self.inside.rules) c.in-Some.is c.self.invariant

pub returns-then-not-is_due_at-clause-took : goal.returns-then-not-is_due_at-clause-took
returns-then-not-is_due_at-clause-took g c =
    line_rests _ _ c.self.view_is _ _ c.in-Some.is refl _ _ _ _ _ (λ connection e. ap not (sym e)) (sym c.is_due_at.ensures
    ∙ c.if-not-is_due_at.true)

pub returns-clause-took : goal.returns-clause-took
returns-clause-took g c =
    let at_it = sym c.is_due_at.ensures ∙ c.if-not-is_due_at.false in
    begin_this _ _ c.self.view_is _ _ c.in-Some.is refl _ _ _ _ c.clear.ensures.items c.deref.ensures.value _ _
    (asked_as _ _ _ _ _ _ (line_of _ _ _ at_it) refl c.say.ensures.said) _ _ at_it c.in_ok-begin.ensures.begins
