use Rattle.fs_line.proofs.Outputs.{flush_failed, sent_straight}
use Rattle.fs_line.proofs.output.Output.put.Goals as goal

pub returns-in_err-flush-clause-sends : goal.returns-in_err-flush-clause-sends
returns-in_err-flush-clause-sends g c =
    flush_failed _ _ c.from_residual.result c.from_residual.ensures.1 c.in_err-flush.ensures.err c.in_err-flush.ensures.empty c.in_err-flush.ensures.cause

pub returns-else-piece-lt-CAPACITY-clause-sends : goal.returns-else-piece-lt-CAPACITY-clause-sends
returns-else-piece-lt-CAPACITY-clause-sends g c =
    sent_straight _ c.write_all.result c.in_ok-flush.ensures.ok c.flush.ensures.empty c.in_ok-flush.ensures.cause.later
    c.write_all.ensures.ok c.write_all.ensures.err c.write_all.ensures.cause
