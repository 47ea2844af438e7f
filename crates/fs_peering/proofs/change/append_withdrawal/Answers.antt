use Rattle.fs_peering.proofs.ChangeParts.{withdrawn}
use Rattle.fs_peering.proofs.change.append_withdrawal.Goals as goal

pub returns-in-Ok : goal.returns-in-Ok
returns-in-Ok c =
    withdrawn _ _ _ _ _ _ c.in_ok-update.ensures c.in-Ok.ensures.written.1
