use Rattle.fs_peering.proofs.KeeperWords.{refl, sym, subst, ◌∙◌, Fits}
use Rattle.fs_peering.proofs.Stepped.{asked_as, came_as, line_no, line_of, line_rests, receive_closes, receive_stays, shut_as}
use Rattle.fs_peering.proofs.keeper.Keeper.receive.Goals as goal

pub returns-in_default-clause-took : goal.returns-in_default-clause-took
returns-in_default-clause-took g c =
    line_no _ _ _ _ _ _ c.self.view_is c.in_default.is

pub invariant_of-self-then-not-is_made_at : goal.invariant_of-self-then-not-is_made_at
invariant_of-self-then-not-is_made_at g c =
    subst (Fits c.self.inside.config.now c.self.inside.rules) c.in-Some.is c.self.invariant

pub returns-then-not-is_made_at-clause-took : goal.returns-then-not-is_made_at-clause-took
returns-then-not-is_made_at-clause-took g c =
    line_rests _ _ c.self.view_is _ _ c.in-Some.is refl _ _ _ _ _ (λ connection e. sym e) (sym c.is_made_at.ensures
    ∙ c.if-not-is_made_at.true)

pub returns-then-is_some-clause-took : goal.returns-then-is_some-clause-took
returns-then-is_some-clause-took g c =
    let at_it = sym c.is_made_at.ensures ∙ c.if-not-is_made_at.false in
    receive_closes _ _ c.self.view_is _ _ c.in-Some.is refl _ _ _ _ c.clear.ensures.items c.deref.ensures.value _ _
    (asked_as _ _ _ _ _ _ (line_of _ _ _ at_it) refl c.say.ensures.said) _ _ _ at_it _ _ _
    c.in_ok-closed.ensures.says (sym c.is_some.ensures
    ∙ c.if-is_some.true) (shut_as _ _ _ _ (line_of _ _ _ at_it) c.shut.ensures.shut) c.shut.ensures.gone

pub returns-then-not-came_up-clause-took : goal.returns-then-not-came_up-clause-took
returns-then-not-came_up-clause-took g c =
    let at_it = sym c.is_made_at.ensures ∙ c.if-not-is_made_at.false in
    receive_stays _ _ c.self.view_is _ _ c.in-Some.is refl _ _ _ _ c.clear.ensures.items c.deref.ensures.value _ _
    (asked_as _ _ _ _ _ _ (line_of _ _ _ at_it) refl c.say.ensures.said) _ _ _ at_it _ _
    c.in_ok-closed.ensures.says (sym c.is_some.ensures
    ∙ c.if-is_some.false) (came_as _ _ _ _ (sym c.if-not-came_up.true ∙ c.came_up.ensures) c.is_up-was_up.ensures)

pub returns-clause-took : goal.returns-clause-took
returns-clause-took g c =
    let at_it = sym c.is_made_at.ensures ∙ c.if-not-is_made_at.false in
    receive_stays _ _ c.self.view_is _ _ c.in-Some.is refl _ _ _ _ c.clear.ensures.items c.deref.ensures.value _ _
    (asked_as _ _ _ _ _ _ (line_of _ _ _ at_it) refl c.say.ensures.said) _ _ _ at_it _ _
    c.in_ok-closed.ensures.says (sym c.is_some.ensures
    ∙ c.if-is_some.false) (came_as _ _ _ _ (sym c.if-not-came_up.false ∙ c.came_up.ensures) c.is_up-was_up.ensures)
