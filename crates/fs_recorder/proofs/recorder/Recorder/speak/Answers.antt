use Rattle.fs_recorder.proofs.Words.{arith, drop, length-drop, subst, sym, peer_of, IsSome, WakesSo, receives, RanAt}
use Rattle.fs_recorder.proofs.Stepping.{piece_writable, woken_broke, woken_shut, woken_then}
use Rattle.fs_recorder.proofs.recorder.Recorder.speak.Goals as goal

pub returns-in_err-is_open-clause-ran : goal.returns-in_err-is_open-clause-ran
returns-in_err-is_open-clause-ran g c =
    woken_broke c.args.time c.args.seat (λ place. receives c.args.self.now.books.desk.config place (drop 15 c.args.piece.now)) c.from_residual.result
    c.from_residual.ensures.1 c.args.self.now _ _ _ _ _ c.in_err-is_open.ensures.ran
    (piece_writable (drop 15 c.args.piece.now) c.args.time c.args.seat c.args.self.now (omega (arith, c.requires.long, length-drop 15 c.args.piece.now)))

pub returns-then-not-is_open-clause-ran : goal.returns-then-not-is_open-clause-ran
returns-then-not-is_open-clause-ran g c =
    woken_shut c.args.time c.args.seat (λ place. receives c.args.self.now.books.desk.config place (drop 15 c.args.piece.now)) c.args.self.now _ _ _ _ _
    (subst (WakesSo c.args.time c.args.seat c.args.self.now) c.if-not-is_open.true c.in_ok-is_open.ensures.lives) c.in_ok-is_open.ensures.ran

pub receive-requires-clause-known : goal.receive-requires-clause-known
receive-requires-clause-known g c = subst (λ config. IsSome (peer_of c.args.seat.peer config.peers)) (sym c.in_ok-is_open.ensures.config) c.requires.known

pub returns-clause-ran : goal.returns-clause-ran
returns-clause-ran g c =
    woken_then c.args.time c.args.seat (λ place. receives c.args.self.now.books.desk.config place (drop 15 c.args.piece.now)) c.receive.result
    c.args.self.now c.wake.new.self c.receive.new.self _ _ _ _ _ _
    (subst (WakesSo c.args.time c.args.seat c.args.self.now) c.if-not-is_open.false c.in_ok-is_open.ensures.lives) c.in_ok-is_open.ensures.ran
    (subst (λ config. RanAt c.receive.result c.args.seat (λ place. receives config place (drop 15 c.args.piece.now)) c.wake.new.self c.receive.new.self
    (g.G.Gate.turns c.wake.new.gate) (g.G.Gate.turns c.receive.new.gate) (g.S.Sink.written c.wake.new.sink) (g.S.Sink.written c.receive.new.sink))
    c.in_ok-is_open.ensures.config c.receive.ensures.ran)
