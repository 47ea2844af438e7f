use Rattle.fs_recorder.proofs.Words.{subst, sym, peer_of, ◌∙◌, IsSome, WakesSo, hurries_where_late, done}
use Rattle.fs_recorder.proofs.Stepping.{did_early, late_writable, woken_broke, woken_shut, woken_then, ran_late}
use Rattle.fs_recorder.proofs.recorder.Recorder.check.Goals as goal

pub returns-in_err-is_open-clause-ran : goal.returns-in_err-is_open-clause-ran
returns-in_err-is_open-clause-ran g c =
    woken_broke c.args.time c.args.seat (hurries_where_late c.args.time) c.from_residual.result c.from_residual.ensures.1 c.args.self.now _ _ _ _ _
    c.in_err-is_open.ensures.ran (late_writable c.args.time c.args.seat c.args.self.now)

pub returns-then-not-is_open-clause-ran : goal.returns-then-not-is_open-clause-ran
returns-then-not-is_open-clause-ran g c =
    woken_shut c.args.time c.args.seat (hurries_where_late c.args.time) c.args.self.now _ _ _ _ _
    (subst (WakesSo c.args.time c.args.seat c.args.self.now) c.if-not-is_open.true c.in_ok-is_open.ensures.lives) c.in_ok-is_open.ensures.ran

pub returns-then-has_time-clause-ran : goal.returns-then-has_time-clause-ran
returns-then-has_time-clause-ran g c =
    woken_then c.args.time c.args.seat (hurries_where_late c.args.time) done c.args.self.now c.wake.new.self c.wake.new.self _ _ _ _ _ _
    (subst (WakesSo c.args.time c.args.seat c.args.self.now) c.if-not-is_open.false c.in_ok-is_open.ensures.lives) c.in_ok-is_open.ensures.ran
    (did_early c.args.time c.args.seat c.wake.new.self _ _ (sym c.has_time.ensures ∙ c.if-has_time.true))

pub hurry-requires : goal.hurry-requires
hurry-requires g c = subst (λ config. IsSome (peer_of c.args.seat.peer config.peers)) (sym c.in_ok-is_open.ensures.config) c.requires

pub returns-clause-ran : goal.returns-clause-ran
returns-clause-ran g c =
    woken_then c.args.time c.args.seat (hurries_where_late c.args.time) c.hurry.result c.args.self.now c.wake.new.self c.hurry.new.self _ _ _ _ _ _
    (subst (WakesSo c.args.time c.args.seat c.args.self.now) c.if-not-is_open.false c.in_ok-is_open.ensures.lives) c.in_ok-is_open.ensures.ran
    (ran_late c.hurry.result c.args.time c.args.seat c.wake.new.self c.hurry.new.self _ _ _ _
    (sym c.has_time.ensures ∙ c.if-has_time.false) c.hurry.ensures.ran)
