use Rattle.fs_peering.proofs.{KeeperWords.{sym, ◌∙◌, hears, on_err}, Following.{breaks_early, hear_breaks, hear_on}}
use Rattle.fs_peering.proofs.Stepped.{err_on, hear_closes, ok_on, quiet_first}
use Rattle.fs_base.specs.Gate.{what_from}
use Rattle.fs_peering.proofs.keeper.Keeper.hear.Goals as goal

pub returns-in_err-closed-clause-breaks : goal.returns-in_err-closed-clause-breaks
returns-in_err-closed-clause-breaks g c =
    on_err c.from_residual.result
    (breaks_early (hears c.args.self.now.config c.args.event.now.time (what_from c.args.event.now.came c.args.into.now)) _ _ _
    c.in_err-closed.ensures.breaks)

pub returns-then-is_some-clause-took : goal.returns-then-is_some-clause-took
returns-then-is_some-clause-took g c =
    hear_closes c.args.self.now.config _ _ _ _ _ _ _ (sym c.is_some.ensures ∙ c.if-is_some.true) c.in_ok-closed.ensures.took

pub returns-clause-took : goal.returns-clause-took
returns-clause-took g c =
    ok_on c.follow.result c.follow.ensures.took
    (λ news later. hear_on _ (what_from c.args.event.now.came c.args.into.now) _ _ _ _ _
    (quiet_first _ _ _ _ _ _ (sym c.is_some.ensures
    ∙ c.if-is_some.false) c.in_ok-closed.ensures.took) news c.follow.new.self later)

pub returns-clause-breaks : goal.returns-clause-breaks
returns-clause-breaks g c =
    err_on _ c.follow.ensures.breaks (hear_breaks _ (what_from c.args.event.now.came c.args.into.now) _ _ _ _ _
    (quiet_first _ _ _ _ _ _ (sym c.is_some.ensures
    ∙ c.if-is_some.false) c.in_ok-closed.ensures.took))
