use Rattle.fs_base.proofs.Grew.{Grew-refl}
use Rattle.cmd_wire.specs.Recording.{IsOfRecording}
use Rattle.cmd_wire.proofs.Words.{Err, Outside, answered_err, ap, inl, inr, refl, sym, status_of, ◌∙◌}
use Rattle.cmd_wire.proofs.Statuses.{not_stopped}
use Rattle.cmd_wire.proofs.RecordingEnds.{accepted_so, config_status, ends_stop, ends_unread, never_three, opened_first, opened_full, some_failed}
use Rattle.cmd_wire.proofs.RecordingEnds.{stop_status, unbegun}
use Rattle.cmd_wire.proofs.recording.record_sessions.Goals as goal

-- the configuration stopped it

pub returns-in_err-config-clause-possible : goal.returns-in_err-config-clause-possible
returns-in_err-config-clause-possible g c =
    answered_err IsOfRecording c.from_residual.result _ c.from_residual.ensures.1 (config_status _ c.in_err-config.ensures.possible)

pub returns-in_err-config-clause-ends : goal.returns-in_err-config-clause-ends
returns-in_err-config-clause-ends g c = λ told.
    ends_unread c.from_residual.result _ c.from_residual.ensures.1 (c.in_err-config.ensures.reaches told) (λ f. inl f)

pub returns-in_err-config-clause-records : goal.returns-in_err-config-clause-records
returns-in_err-config-clause-records g c = λ told accepted found. unbegun accepted _ _ _ (Grew-refl (g.G.Gate.turns c.args.gate.now))

-- the address couldn't be listened at

pub returns-in_err-open-clause-possible : goal.returns-in_err-open-clause-possible
returns-in_err-open-clause-possible g c =
    answered_err IsOfRecording c.from_residual-in_err-open.result Outside c.from_residual-in_err-open.ensures.1 (inl refl)

pub returns-in_err-open-clause-stopped : goal.returns-in_err-open-clause-stopped
returns-in_err-open-clause-stopped g c = λ told refusal stop. not_stopped (c.in_ok-config.ensures.reaches told) stop

pub returns-in_err-open-clause-ends : goal.returns-in_err-open-clause-ends
returns-in_err-open-clause-ends g c = λ told.
    ends_unread c.from_residual-in_err-open.result Outside c.from_residual-in_err-open.ensures.1
    (inr (inr (refl, c.in_err-open.ensures.cause.failed))) (λ f. inr (inr f))

pub returns-in_err-open-clause-records : goal.returns-in_err-open-clause-records
returns-in_err-open-clause-records g c = λ told.
    accepted_so _ c.in_ok-config.config (c.in_ok-config.ensures.reaches told) (unbegun c.in_ok-config.config _ _ _ c.in_err-open.ensures.opened)

-- recording ended

pub returns-clause-possible : goal.returns-clause-possible
returns-clause-possible g c = rw c.refusal_by.ensures (stop_status c.in-Err.stop)

pub returns-clause-unused : goal.returns-clause-unused
returns-clause-unused g c = λ three. absurd (never_three c.in-Err.stop (sym (ap status_of c.refusal_by.ensures) ∙ three))

pub returns-clause-stopped : goal.returns-clause-stopped
returns-clause-stopped g c = λ told refusal stop. not_stopped (c.in_ok-config.ensures.reaches told) stop

pub returns-clause-ends : goal.returns-clause-ends
returns-clause-ends g c = λ told.
    rw c.refusal_by.ensures
    (ends_stop c.in_ok-config.config c.in-Err.stop (c.in_ok-config.ensures.reaches told)
    (λ e. some_failed _ _ _ (g.G.Gate.faults c.open.new.self) _ _ c.in_ok-open.ensures.cause.later
    (c.follow.ensures.failed (c.in-Err.is ∙ ap Err e)))
    (λ e. opened_full c.args.order.now.limit c.in_ok-config.config _ (g.G.Gate.turns c.open.new.self) _ c.in_ok-open.ensures.opened
    (c.follow.ensures.full (c.in-Err.is ∙ ap Err e))))

pub returns-clause-records : goal.returns-clause-records
returns-clause-records g c = λ told.
    accepted_so _ c.in_ok-config.config (c.in_ok-config.ensures.reaches told)
    (opened_first c.in_ok-config.config _ (g.G.Gate.turns c.open.new.self) _ _ _ c.in_ok-open.ensures.opened c.follow.ensures.records)
