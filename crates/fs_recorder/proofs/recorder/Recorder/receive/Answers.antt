use Rattle.fs_recorder.proofs.Words.{◌≡◌, drop, received, refl, subst, Recording, TellsPart, Err, ap}
use Rattle.fs_recorder.proofs.{Stepping.{did_receive, received_as, broke_unreceived, broke_received}, Telling.{part_where}}
use Rattle.fs_recorder.specs.declared.stop.Stop.TheVariants.{Limit}
use Rattle.fs_recorder.proofs.recorder.Recorder.receive.Goals as goal

pub returns-in_err-octets-clause-ran : goal.returns-in_err-octets-clause-ran
returns-in_err-octets-clause-ran g c =
    broke_unreceived c.from_residual.result c.from_residual.ensures.1 (drop 15 c.args.piece.now) c.args.seat c.args.self.now _
    (g.G.Gate.turns c.args.gate.now) _ _
    (subst (λ (r : Recording). TellsPart (c.in_err-octets.field-0.0 ≡ Limit) (received c.args.seat.peer (drop 15 c.args.piece.now)) r.books
    (g.S.Sink.written c.args.sink.now) (g.S.Sink.written c.octets.new.sink)) c.self.view_is (part_where (ap Err) c.in_err-octets.ensures.err))

pub returns-in_err-answer-clause-ran : goal.returns-in_err-answer-clause-ran
returns-in_err-answer-clause-ran g c =
    broke_received c.from_residual-in_err-answer.result c.from_residual-in_err-answer.ensures.1 (drop 15 c.args.piece.now) c.args.seat c.args.self.now
    _ _ _ _ _ _ _
    (received_as _ _ _ _ _ _ _ _ c.self.view_is c.clear.ensures.items c.in_ok-octets.ensures.told c.in_ok-octets.ensures.handed
    c.in_ok-octets.ensures.others c.in_ok-octets.ensures.replied refl refl)
    c.in_err-answer.ensures.answered

pub returns-clause-ran : goal.returns-clause-ran
returns-clause-ran g c =
    did_receive (drop 15 c.args.piece.now) c.args.seat _ c.args.self.now _ _ _ _ _ _ _
    (received_as _ _ _ _ _ _ _ _ c.self.view_is c.clear.ensures.items c.in_ok-octets.ensures.told c.in_ok-octets.ensures.handed
    c.in_ok-octets.ensures.others c.in_ok-octets.ensures.replied refl refl)
    c.in_ok-answer.ensures.answered
