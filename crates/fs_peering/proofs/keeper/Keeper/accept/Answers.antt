use Rattle.fs_peering.proofs.KeeperWords.{sym, subst, ◌∙◌, Option, IfSome, CanSend, Keeping, Sending, accepts, sender_of}
use Rattle.fs_peering.proofs.{Following.{breaks_early}, Stepped.{accept_off, accept_on, err_on, ok_on}}
use Rattle.fs_peering.proofs.keeper.Keeper.accept.Goals as goal

pub invariant_of-self : goal.invariant_of-self
invariant_of-self g c =
    record {
      sendable = subst (λ (r : Option Sending). IfSome r (CanSend c.self.inside.config.now (sender_of c.self.inside.config.now.peers)))
          (sym c.replace-old.ensures.after) (subst (λ
          (k : Keeping). CanSend k.config (sender_of k.config.peers) c.args.rules) (sym c.self.view_is) c.requires);
      own = c.self.invariant.own;
    }

pub returns-then-not-is_told-clause-took : goal.returns-then-not-is_told-clause-took
returns-then-not-is_told-clause-took g c =
    accept_off _ _ _ _ _ _ c.self.view_is c.requires c.replace-old.ensures.after (sym c.is_told.ensures
    ∙ c.if-not-is_told.true)

pub tell-requires : goal.tell-requires
tell-requires g c =
    subst (λ (r : Option Sending). IfSome r (CanSend c.self.inside.config.now (sender_of c.self.inside.config.now.peers))) (sym (c.as_ref.ensures.value ∙
    c.replace-old.ensures.value)) c.self.invariant.sendable

pub returns-clause-took : goal.returns-clause-took
returns-clause-took g c =
    ok_on c.tell.result c.tell.ensures.tells (λ news tells. accept_on _ _ c.tell.new.self c.args.time _ _
    _ news _ _ c.self.view_is c.requires c.replace-old.ensures.after
    (sym c.is_told.ensures ∙ c.if-not-is_told.false) (c.as_ref.ensures.value ∙ c.replace-old.ensures.value) tells)

pub returns-clause-breaks : goal.returns-clause-breaks
returns-clause-breaks g c =
    err_on _ c.tell.ensures.breaks (breaks_early (accepts c.args.self.now.config c.args.time c.args.rules) c.args.self.now _ _)
