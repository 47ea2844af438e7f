use Rattle.fs_peering.proofs.KeeperWords.{ap, sym, ◌∙◌, Bool, true, if◌then◌else◌, Ended, Unreached, Keeping}
use Rattle.fs_peering.proofs.{Following.{at_none}, Stepped.{end_other, end_this}}
use Rattle.fs_peering.proofs.keeper.Keeper.end.Goals.{then-link, else-link}
use Rattle.fs_peering.proofs.keeper.Keeper.end.Goals as goal

pub returns-in_default : goal.returns-in_default
returns-in_default c =
    at_none _ _ _ _ (sym (ap (λ (k : Keeping). k.link) c.self.view_is) ∙ c.in_default.is)

pub returns-then-link-line : goal.returns-then-link-line
returns-then-link-line c =
    end_other _ _ c.self.view_is _ _ c.in-Some.is c.link.view_is _ _ c.if-link-line.true

pub returns : goal.returns
returns c =
    end_this _ _ c.self.view_is _ _ c.in-Some.is c.link.view_is _ _ _ _ c.if-link-line.false (elim c.if-link.branch [
      | then-link w ↦ w.news-is ∙ ap (λ (b : Bool). if b then Ended else Unreached) (sym w.if-link.true)
      | else-link w ↦ w.news-is ∙ ap (λ (b : Bool). if b then Ended else Unreached) (sym w.if-link.false)
    ]) c.let_go.ensures
