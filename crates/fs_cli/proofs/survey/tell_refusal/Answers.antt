use Rattle.fs_cli.proofs.{Words.{subst, sym, Rose, Fails, Refusal, stopped_text}, Surveying.{says_failing}}
use Rattle.fs_reports.specs.TapeFault.{tape_fault_line}
use Rattle.fs_cli.proofs.survey.tell_refusal.Goals as goal

pub returns-in_err-write_made-clause-said : goal.returns-in_err-write_made-clause-said
returns-in_err-write_made-clause-said g c =
    says_failing c.args.refusal _ _ _ c.from_residual.result c.in_err-write_made.field-0.0 c.from_residual.ensures.1
    (subst (λ (refusal : Refusal). Fails (stopped_text refusal) (Rose (g.S.Sink.faults c.args.sink.now) (g.S.Sink.faults c.write_made.new.sink))
    (g.S.Sink.written c.args.sink.now) (g.S.Sink.written c.write_made.new.sink) c.in_err-write_made.field-0.0) (sym c.in-Tape.is)
    (c.in_err-write_made.ensures.written (tape_fault_line c.in-Tape.reason c.in-Tape.place) c.tape_fault_text.ensures))
