use Rattle.fs_cli.proofs.Words.{List, ℕ, inl, inr, subst, Grew, said_by, checked}
use Rattle.fs_cli.proofs.program.run_check.Goals as goal

pub returns-in-Ok-write_all-clause-checks : goal.returns-in-Ok-write_all-clause-checks
returns-in-Ok-write_all-clause-checks g c = inr (record {
  accepted = c.in-Ok.report.accepted;
  text = c.in-Ok.report.text.items;
  reports = c.in-Ok.ensures;
  answers = said_by (checked c.in-Ok.report.accepted) c.in-Ok.report.text.items _ _ _ _ (inl c.checked.ensures)
      (subst (λ (text : List ℕ). Grew (g.S.Sink.written c.args.sink.now) (g.S.Sink.written c.write_all.new.sink) text) c.deref.ensures.value
      c.in-Ok-write_all.ensures.ok);
})
