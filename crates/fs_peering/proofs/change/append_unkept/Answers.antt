use Rattle.fs_peering.specs.Change.{unkept}
use Rattle.fs_peering.proofs.{Words.{◌∙◌}, ChangeParts.{are_of_family, unkept_fit}}
use Rattle.fs_peering.proofs.change.append_unkept.Goals as goal

pub append_withdrawals-requires-clause-of_family : goal.append_withdrawals-requires-clause-of_family
append_withdrawals-requires-clause-of_family c =
    rw (c.deref.ensures.value ∙ c.in_ok-rules.ensures) (are_of_family c.args.family (unkept c.args.kept.now c.args.old.now))

pub append_withdrawals-requires-clause-fit : goal.append_withdrawals-requires-clause-fit
append_withdrawals-requires-clause-fit c =
    rw (c.deref.ensures.value ∙ c.in_ok-rules.ensures) (unkept_fit c.args.family c.args.kept.now c.args.old.now c.requires)
