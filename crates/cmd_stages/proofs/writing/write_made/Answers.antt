use Rattle.cmd_stages.proofs.Words.{◌∙◌, ℕ, List, inl, refl, subst, Rose, Grew-refl, Writes}
use Rattle.cmd_stages.proofs.writing.write_made.Goals as goal

pub returns-in-Ok-clause-written : goal.returns-in-Ok-clause-written
returns-in-Ok-clause-written g c = λ said is.
    subst (λ (text : List ℕ). Writes text (Rose (g.S.Sink.faults c.args.sink.now) (g.S.Sink.faults c.write_text.new.sink))
    (g.S.Sink.written c.args.sink.now) (g.S.Sink.written c.write_text.new.sink) c.write_text.result)
    (c.deref.ensures.value ∙ rw c.in-Ok.is at is) c.write_text.ensures.written

pub returns-in-Err-clause-written : goal.returns-in-Err-clause-written
returns-in-Err-clause-written g c = λ said is. inl (refl, Grew-refl (g.S.Sink.written c.args.sink.now))
