use Rattle.fs_recorder.proofs.{Words.{arith, drop, length-drop, subst, RanHear, RanSo, broken, done}, Telling.{payload_all}}
use Rattle.fs_recorder.specs.Door.{without_guest}
use Rattle.fs_recorder.specs.Steps.{admits}
use Rattle.fs_recorder.proofs.Waiting.{ran_give, broke_give}
use Rattle.fs_recorder.proofs.recorder.Recorder.give.Goals as goal

pub returns-in_err-admit-clause-ran : goal.returns-in_err-admit-clause-ran
returns-in_err-admit-clause-ran g c =
    broke_give c.args.line c.args.time (drop 15 c.args.piece.now) c.args.self.now _ _ _ _ _ c.from_residual.result c.from_residual.ensures.1 _
    (omega (arith, c.requires.long, length-drop 15 c.args.piece.now))
    (subst (λ piece. RanSo (broken c.in_err-admit.field-0.0)
    (admits c.args.self.now.books.desk.config c.args.line piece c.args.self.now.door.guests) c.args.self.now c.admit.new.self
    (g.G.Gate.turns c.args.gate.now) (g.G.Gate.turns c.admit.new.gate) (g.S.Sink.written c.args.sink.now) (g.S.Sink.written c.admit.new.sink))
    (payload_all c.args.piece.now) c.in_err-admit.ensures.ran)

pub returns-clause-ran : goal.returns-clause-ran
returns-clause-ran g c =
    ran_give c.args.line c.args.time (drop 15 c.args.piece.now) c.args.self.now c.admit.new.self _ _ _ _ c.octets.result c.octets.new.self _ _
    (subst (λ piece. RanHear done (without_guest c.args.line c.args.self.now.door)
    (admits c.args.self.now.books.desk.config c.args.line piece c.args.self.now.door.guests)
    c.args.self.now c.admit.new.self (g.G.Gate.turns c.args.gate.now) (g.G.Gate.turns c.admit.new.gate) (g.S.Sink.written c.args.sink.now)
    (g.S.Sink.written c.admit.new.sink))
    (payload_all c.args.piece.now) c.in_ok-admit.ensures.ran)
    c.octets.ensures.ran
