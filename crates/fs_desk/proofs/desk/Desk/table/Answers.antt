use Rattle.fs_desk.proofs.{Words.{ap, sym, subst, Held, Desked, LeavesBut}, Leaves.{played_leaves_but}}
use Rattle.fs_desk.proofs.desk.Desk.table.Goals as goal

pub returns-clause-left : goal.returns-clause-left
returns-clause-left c = λ expired config items played. subst (λ (h : Held). LeavesBut expired config items h)
    (sym (ap (λ (d : Desked). d.held) c.self.view_is)) (played_leaves_but config items c.args.self.now played)
