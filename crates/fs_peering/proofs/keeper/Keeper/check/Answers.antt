use Rattle.fs_peering.proofs.{KeeperWords.{sym, subst, ◌∙◌, Fits}, Stepped.{check_closes, check_no, check_off, check_stays}}
use Rattle.fs_peering.proofs.keeper.Keeper.check.Goals as goal

pub returns-in_default-clause-took : goal.returns-in_default-clause-took
returns-in_default-clause-took g c =
    check_no _ _ _ _ c.self.view_is c.in_default.is

pub invariant_of-self-then-not-link : goal.invariant_of-self-then-not-link
invariant_of-self-then-not-link g c =
    subst (Fits c.self.inside.config.now c.self.inside.rules) c.in-Some.is c.self.invariant

pub returns-then-not-link-clause-took : goal.returns-then-not-link-clause-took
returns-then-not-link-clause-took g c =
    check_off _ _ c.self.view_is _ _ c.in-Some.is c.link.view_is _ _ c.if-not-link.true

pub returns-then-is_some-clause-took : goal.returns-then-is_some-clause-took
returns-then-is_some-clause-took g c =
    check_closes _ _ c.self.view_is _ _ c.in-Some.is c.link.view_is _ _ _ _ c.clear.ensures.items c.deref.ensures.value _ _
    c.say.ensures.said _ _ _ _ c.if-not-link.false c.in_ok-closed.ensures.says (sym c.is_some.ensures
    ∙ c.if-is_some.true) c.shut.ensures.shut c.shut.ensures.gone

pub returns-else-is_some-clause-took : goal.returns-else-is_some-clause-took
returns-else-is_some-clause-took g c =
    check_stays _ _ c.self.view_is _ _ c.in-Some.is c.link.view_is _ _ _ _ c.clear.ensures.items c.deref.ensures.value _ _
    c.say.ensures.said _ _ c.if-not-link.false c.in_ok-closed.ensures.says (sym c.is_some.ensures ∙ c.if-is_some.false)
