use Rattle.fs_recorder.proofs.{Words.{sym, ◌∙◌}, Connecting.{did_take_none, ran_take}}
use Rattle.fs_recorder.proofs.recorder.Recorder.take.Goals as goal

pub returns-in-Some-clause-ran : goal.returns-in-Some-clause-ran
returns-in-Some-clause-ran g c =
    ran_take c.args.self.now.books.desk.config c.args.line c.args.from c.args.told c.args.since c.args.self.now _ _ _ _ c.replace.result
    c.in-Some.peer c.replace.new.self (sym c.peer_for.ensures.found ∙ c.in-Some.is) c.replace.ensures.ran

pub returns-in-None-clause-ran : goal.returns-in-None-clause-ran
returns-in-None-clause-ran g c =
    did_take_none c.args.self.now.books.desk.config c.args.line c.args.from c.args.told c.args.since c.args.self.now _ _
    (g.S.Sink.written c.args.sink.now) (g.S.Sink.written c.args.sink.now)
    (sym c.peer_for.ensures.found ∙ c.in-None.is) c.close.ensures.closed
