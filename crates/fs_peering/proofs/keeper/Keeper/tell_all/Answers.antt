use Rattle.fs_peering.proofs.{KeeperWords.{sym, ◌∙◌, tells_all}, Following.{breaks_early}, KeeperTells.{all_rests, all_tells}, Stepped.{err_on, ok_on}}
use Rattle.fs_peering.proofs.keeper.Keeper.tell_all.Goals as goal

pub returns-then-not-is_untold-clause-took : goal.returns-then-not-is_untold-clause-took
returns-then-not-is_untold-clause-took g c =
    all_rests _ _ _ (sym c.is_untold.ensures ∙ c.if-not-is_untold.true)

pub returns-clause-took : goal.returns-clause-took
returns-clause-took g c =
    ok_on c.tell.result c.tell.ensures.tells
    (λ news tells. all_tells c.args.time c.args.self.now news c.tell.new.self _ _ (sym c.is_untold.ensures ∙ c.if-not-is_untold.false) tells)

pub returns-clause-breaks : goal.returns-clause-breaks
returns-clause-breaks g c =
    err_on _ c.tell.ensures.breaks (breaks_early (tells_all c.args.self.now.config c.args.time) c.args.self.now _ _)
