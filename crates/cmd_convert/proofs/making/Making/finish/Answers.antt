use Rattle.std.proofs.Common.{inl, inr, refl}
use Rattle.cmd_convert.proofs.making.Making.finish.Goals as goal

pub returns-in_err-flush-clause-finishes : goal.returns-in_err-flush-clause-finishes
returns-in_err-flush-clause-finishes g c =
    rw (← c.self.view_is) (inr (c.from_residual.ensures.1, c.in_err-flush.ensures.cause.failed, c.in_err-flush.ensures.err))

pub returns-clause-finishes : goal.returns-clause-finishes
returns-clause-finishes g c = rw (← c.self.view_is) (inl (refl, c.in_ok-flush.ensures.ok))
