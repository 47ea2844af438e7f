use Rattle.std.proofs.Common.{ap, inl, inr, length, refl}
use Rattle.cmd_enforce.proofs.lines.Lines.finish.Goals as goal

pub returns-in_err-flush-clause-idle : goal.returns-in_err-flush-clause-idle
returns-in_err-flush-clause-idle g c = λ empty. (c.in_err-flush.ensures.idle (ap length empty)).1

pub returns-in_err-flush-clause-finishes : goal.returns-in_err-flush-clause-finishes
returns-in_err-flush-clause-finishes g c = inr (c.from_residual.ensures.1, c.in_err-flush.ensures.cause.failed, c.in_err-flush.ensures.err)

pub returns-clause-idle : goal.returns-clause-idle
returns-clause-idle g c = λ empty. (c.in_ok-flush.ensures.idle (ap length empty)).1

pub returns-clause-finishes : goal.returns-clause-finishes
returns-clause-finishes g c = inl (refl, c.in_ok-flush.ensures.ok)
