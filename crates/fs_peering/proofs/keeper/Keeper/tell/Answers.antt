use Rattle.fs_peering.proofs.{KeeperWords.{sym, subst, IfSome, CanSend, Fits, Keeping, option_copied, sender_of}, Following.{all_said, may_be_said}}
use Rattle.fs_peering.proofs.Stepped.{tell_closes, tell_idle, tell_no, tell_stays}
use Rattle.fs_peering.proofs.keeper.Keeper.tell.Goals as goal

pub returns-in_default-clause-tells : goal.returns-in_default-clause-tells
returns-in_default-clause-tells g c =
    tell_no _ _ _ _ _ c.self.view_is c.in_default.is

pub invariant_of-self-in_default-rules : goal.invariant_of-self-in_default-rules
invariant_of-self-in_default-rules g c =
    subst (Fits c.self.inside.config.now c.self.inside.rules) c.in-Some.is c.self.invariant

pub returns-in_default-rules-clause-tells : goal.returns-in_default-rules-clause-tells
returns-in_default-rules-clause-tells g c =
    tell_idle _ _ _ _ _ _ c.self.view_is c.in-Some.is c.in_default-rules.is

pub tell-requires-clause-old : goal.tell-requires-clause-old
tell-requires-clause-old g c =
    all_said _ _ _ (rw c.in-Some.is at c.self.invariant.own)
    (subst (λ (k : Keeping). IfSome (option_copied c.args.old) (CanSend k.config (sender_of k.config.peers))) (sym c.self.view_is) c.requires)

pub tell-requires-clause-new : goal.tell-requires-clause-new
tell-requires-clause-new g c =
    may_be_said _ _ _ (rw c.in-Some.is at c.self.invariant.own)
    (rw c.in-Some-rules.is at c.self.invariant.sendable)

pub returns-then-closes-clause-tells : goal.returns-then-closes-clause-tells
returns-then-closes-clause-tells g c =
    tell_closes _ _ c.self.view_is _ _ _ _ _ c.in-Some.is c.in-Some-rules.is c.link.view_is _ _
    _ _ _ _ c.clear.ensures.items c.deref.ensures.value c.in_ok-news.ensures.tells _ _ c.say.ensures.said
    _ _ c.if-closes.true c.shut.ensures.shut c.shut.ensures.gone

pub returns-else-closes-clause-tells : goal.returns-else-closes-clause-tells
returns-else-closes-clause-tells g c =
    tell_stays _ _ c.self.view_is _ _ _ _ _ c.in-Some.is c.in-Some-rules.is c.link.view_is _ _
    _ _ _ _ c.clear.ensures.items c.deref.ensures.value c.in_ok-news.ensures.tells _ _ c.say.ensures.said c.if-closes.false
