use Rattle.fs_recorder.proofs.{Words.{ap, ◌∙◌, subst, sym, refl, AreKnown, Recording}, Doing.{wanted_memory, ok_to}}
use Rattle.fs_recorder.proofs.Stepping.{woke_as, broke_unwoken, ran_wake, answer_lives, answer_config}
use Rattle.fs_recorder.proofs.recorder.Recorder.wake.Goals as goal

pub returns-in_err-tick-clause-ran : goal.returns-in_err-tick-clause-ran
returns-in_err-tick-clause-ran g c =
    broke_unwoken c.from_residual.result c.from_residual.ensures.1 (wanted_memory c.in_err-tick.field-0.0 c.in_err-tick.ensures.memory) c.args.time
    c.args.seat c.args.self.now _ (g.G.Gate.turns c.args.gate.now) (g.S.Sink.written c.args.sink.now)

pub returns-clause-ran : goal.returns-clause-ran
returns-clause-ran g c =
    ran_wake c.answer.result c.args.time c.args.seat c.args.self.now _ c.answer.new.self _ _ _ _
    (woke_as _ _ _ _ _ _ c.self.view_is c.clear.ensures.items c.in_ok-tick.ensures.ticked c.in_ok-tick.ensures.played c.in_ok-tick.ensures.others
    c.in_ok-tick.ensures.expired c.tick.ensures.config c.tick.ensures.scribe refl refl)
    c.answer.ensures.answered

pub returns-clause-stay : goal.returns-clause-stay
returns-clause-stay g c = ok_to c.answer.result c.answer.ensures.stay
    (λ stay. λ known. stay
    (subst (λ config. AreKnown config c.self.inside.seats.items) (sym c.tick.ensures.config)
    (subst (λ (r : Recording). AreKnown r.books.desk.config r.seats) (sym c.self.view_is) known)))

pub returns-clause-lives : goal.returns-clause-lives
returns-clause-lives g c =
    answer_lives c.answer.result c.args.time c.args.seat c.args.self.now _ c.answer.new.self _ _ _ _
    (woke_as _ _ _ _ _ _ c.self.view_is c.clear.ensures.items c.in_ok-tick.ensures.ticked c.in_ok-tick.ensures.played c.in_ok-tick.ensures.others
    c.in_ok-tick.ensures.expired c.tick.ensures.config c.tick.ensures.scribe refl refl)
    c.answer.ensures.answered

pub returns-clause-config : goal.returns-clause-config
returns-clause-config g c =
    answer_config c.answer.result c.args.seat _ _ _ _ _ _ c.answer.ensures.answered
    (c.tick.ensures.config ∙ ap (λ (r : Recording). r.books.desk.config) c.self.view_is)
