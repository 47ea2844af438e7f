use Rattle.fs_recorder.proofs.Doing.{breaks_leave, does_leave, err_to, ok_to}
use Rattle.fs_recorder.proofs.recorder.Recorder.dismiss.Goals as goal

pub returns-clause-leaves : goal.returns-clause-leaves
returns-clause-leaves g c = ok_to c.lose.result c.lose.ensures.told
    (λ told. does_leave c.args.seat _ _ _ _ _ c.close.ensures.closed _ told)

pub returns-clause-breaks : goal.returns-clause-breaks
returns-clause-breaks g c = err_to c.lose.result c.lose.ensures.err
    (λ part. breaks_leave c.args.seat _ _ _ _ _ c.close.ensures.closed part)
