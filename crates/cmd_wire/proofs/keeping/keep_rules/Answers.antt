use Rattle.fs_base.proofs.Grew.{Grew-refl}
use Rattle.cmd_wire.specs.Keeping.{IsOfKeeping}
use Rattle.cmd_wire.proofs.Words.{Err, answered_err, ap, inl, sym, status_of, ◌∙◌}
use Rattle.cmd_wire.proofs.{Statuses.{not_stopped}, RecordingEnds.{accepted_so, config_status, ends_stop, ends_unread, never_three, stop_status}}
use Rattle.cmd_wire.proofs.KeepingEnds.{some_failed, unbegun}
use Rattle.cmd_wire.proofs.keeping.keep_rules.Goals as goal

-- the configuration stopped it

pub returns-in_err-config-clause-possible : goal.returns-in_err-config-clause-possible
returns-in_err-config-clause-possible g c =
    answered_err IsOfKeeping c.from_residual.result _ c.from_residual.ensures.1 (config_status _ c.in_err-config.ensures.possible)

pub returns-in_err-config-clause-ends : goal.returns-in_err-config-clause-ends
returns-in_err-config-clause-ends g c = λ told.
    ends_unread c.from_residual.result _ c.from_residual.ensures.1 (c.in_err-config.ensures.reaches told) (λ f. inl (inl f))

pub returns-in_err-config-clause-keeps : goal.returns-in_err-config-clause-keeps
returns-in_err-config-clause-keeps g c = λ told accepted found. inl (unbegun _ _ _ _ (Grew-refl (g.G.Gate.turns c.args.gate.now)))

-- keeping ended

pub returns-clause-possible : goal.returns-clause-possible
returns-clause-possible g c = rw c.refusal_by.ensures (stop_status c.in-Err.stop)

pub returns-clause-unused : goal.returns-clause-unused
returns-clause-unused g c = λ three. absurd (never_three c.in-Err.stop (sym (ap status_of c.refusal_by.ensures) ∙ three))

pub returns-clause-stopped : goal.returns-clause-stopped
returns-clause-stopped g c = λ told refusal stop. not_stopped (c.in_ok-config.ensures.reaches told) stop

pub returns-clause-ends : goal.returns-clause-ends
returns-clause-ends g c = λ told.
    rw c.refusal_by.ensures
    (ends_stop c.in_ok-config.config c.in-Err.stop (c.in_ok-config.ensures.reaches told)
    (λ e. some_failed (c.follow.ensures.failed (c.in-Err.is ∙ ap Err e)))
    (λ e. c.follow.ensures.full (c.in-Err.is ∙ ap Err e)))

pub returns-clause-keeps : goal.returns-clause-keeps
returns-clause-keeps g c = λ told. accepted_so _ c.in_ok-config.config (c.in_ok-config.ensures.reaches told) c.follow.ensures.keeps
