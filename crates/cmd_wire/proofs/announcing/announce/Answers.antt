use Rattle.cmd_wire.proofs.Words.{length, refl, happened, with_wire, OpensFront, answered_err, config_then}
use Rattle.cmd_wire.proofs.{Concluding.{told_line}, FromStages.{broken_session}, Statuses.{not_stopped}}
use Rattle.cmd_wire.specs.Lines.{sent_line}
use Rattle.cmd_wire.proofs.announcing.announce.Goals as goal

pub returns-clause-announces : goal.returns-clause-announces
returns-clause-announces g c = λ told.
    told_line _ _ (with_wire g.W.Wire c.args.wire.now c.speak.new.wire
    (happened g.F.Files g.S.Sink c.args.files.now c.load_both.new.files c.args.sink.now c.tell_ending.new.sink)) _
    (c.in_ok-config.config, c.in_ok-config.sending) c.in_ok-ending.ending (sent_line (length c.in_ok-config.sending.rules))
    (c.in_ok-config.ensures.reaches told)
    (c.in_ok-ending.ensures.spoken, refl) (rw (← c.as_slice-count.ensures) c.tell_ending.ensures.told)

pub returns-in_err-ending-clause-possible : goal.returns-in_err-ending-clause-possible
returns-in_err-ending-clause-possible g c =
    (broken_session c.from_residual-in_err-ending.result c.from_residual-in_err-ending.ensures.1 c.in_err-ending.ensures.broken).1

pub returns-in_err-ending-clause-stopped : goal.returns-in_err-ending-clause-stopped
returns-in_err-ending-clause-stopped g c = λ told refusal stop. not_stopped (c.in_ok-config.ensures.reaches told) stop

pub returns-clause-stopped : goal.returns-clause-stopped
returns-clause-stopped g c = λ told refusal stop. not_stopped (c.in_ok-config.ensures.reaches told) stop

pub returns-in_err-config-clause-opens : goal.returns-in_err-config-clause-opens
returns-in_err-config-clause-opens g c =
    answered_err (OpensFront (config_then 2 c.args.order.now.config.now c.args.order.now.rules.now) _ _) c.from_residual.result
    c.in_err-config.field-0.0 c.from_residual.ensures.1 c.in_err-config.ensures.opens
