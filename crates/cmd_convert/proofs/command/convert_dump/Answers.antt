use Rattle.cmd_convert.proofs.Words.{◌∙◌, arith, rules, Rose, coming, spoken_from, lives_of, items_from, match_err}
use Rattle.cmd_convert.proofs.Converting.{begun_stopped, doing_more, doing_stopped, gives_as}
use Rattle.cmd_convert.proofs.command.convert_dump.Goals as goal

pub returns-in_err-begin-clause-made : goal.returns-in_err-begin-clause-made
returns-in_err-begin-clause-made g c = λ told.
    let all = coming c.args.making.now.config c.args.dump.now (g.F.Files.left c.args.files.now c.args.dump.now.slot) in
    match_err _ _ c.from_residual.result c.from_residual.ensures.1 (λ refusal same.
    begun_stopped all.1 (items_from c.args.making.now.config (lives_of c.args.making.now.lives) all.0) (g.S.Sink.written c.args.sink.now)
    (g.S.Sink.written c.begin.new.sink)
    c.args.making.now.pending c.begin.new.self.pending (Rose (g.F.Files.faults c.args.files.now) (g.F.Files.faults c.args.files.now))
    (g.S.Sink.faults c.args.sink.now) (g.S.Sink.faults c.begin.new.sink) refusal c.in_err-begin.ensures.sends.err.0 c.in_err-begin.ensures.sends.err.1 same)

pub records-preserved : goal.records-preserved
records-preserved g c =
    let grows = rw c.in-Some.is at c.in_ok-heard.ensures.grows in
    record {
      room = search rules;
      unended = rw c.in-Some.is at c.in_ok-heard.ensures.open;
      slot = c.in_ok-heard.ensures.slot ∙ c.records.invariant.slot;
      limit = c.in_ok-heard.ensures.limit ∙ c.records.invariant.limit;
      within = grows.1;
      config = c.in_ok-write_heard.ensures.config ∙ c.records.invariant.config;
      files_later = omega (arith, c.records.invariant.files_later, c.in_ok-heard.ensures.later);
      sink_later = omega (arith, c.records.invariant.sink_later, c.in_ok-write_heard.ensures.sends.later);
      opened = c.in_ok-heard.ensures.opened ∙ c.records.invariant.opened;
      doing = λ told.
          doing_more c.args.making.now.config (lives_of c.args.making.now.lives) (lives_of c.records.making.lives) _ _ _ _ _ _
          c.records.making.config (lives_of c.write_heard.new.self.lives) _ _ _ (spoken_from c.in-Some.heard c.next_heard.new.buffer)
          c.records.invariant.config (c.records.invariant.doing told)
          (gives_as c.args.making.now.config c.config-config.result.now c.records.dump c.next_heard.new.dump (g.F.Files.left c.records.files)
          (g.F.Files.left c.next_heard.new.files) (spoken_from c.in-Some.heard c.next_heard.new.buffer)
          c.config-config.ensures c.in_ok-heard.ensures.slot (rw c.in-Some.is at (c.in_ok-heard.ensures.gives told)))
          c.in_ok-write_heard.ensures.lives c.in_ok-write_heard.ensures.sends.ok;
    }

pub returns-in_err-write_heard-clause-made : goal.returns-in_err-write_heard-clause-made
returns-in_err-write_heard-clause-made g c =
    λ told. match_err _ _ c.from_residual-in_err-write_heard.result c.from_residual-in_err-write_heard.ensures.1 (λ refusal same.
    doing_stopped c.args.making.now.config (lives_of c.args.making.now.lives) (lives_of c.records.making.lives) _ _ _ _ _ _
    c.records.making.config _ _ _ (spoken_from c.in-Some.heard c.next_heard.new.buffer) _
    (g.S.Sink.faults c.args.sink.now) (g.S.Sink.faults c.records.sink) (g.S.Sink.faults c.write_heard.new.sink) refusal
    c.records.invariant.config (c.records.invariant.doing told)
    (gives_as c.args.making.now.config c.config-config.result.now c.records.dump c.next_heard.new.dump (g.F.Files.left c.records.files)
    (g.F.Files.left c.next_heard.new.files) (spoken_from c.in-Some.heard c.next_heard.new.buffer)
    c.config-config.ensures c.in_ok-heard.ensures.slot (rw c.in-Some.is at (c.in_ok-heard.ensures.gives told)))
    c.in_err-write_heard.ensures.sends.err.0 c.records.invariant.sink_later c.in_err-write_heard.ensures.sends.err.1 same)
