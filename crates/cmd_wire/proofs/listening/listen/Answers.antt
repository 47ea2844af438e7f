use Rattle.cmd_wire.proofs.Words.{inl, inr, happened, with_wire, reason_then, with_peer}
use Rattle.cmd_wire.proofs.{FromStages.{broken_session, ends_handed, next_reason}, Concluding.{told_desk}, Hearing.{heard_as, hearing_found}}
use Rattle.cmd_wire.proofs.Statuses.{not_stopped}
use Rattle.cmd_wire.proofs.listening.listen.Goals as goal

pub returns-in_err-config-clause-listens : goal.returns-in_err-config-clause-listens
returns-in_err-config-clause-listens g c = λ told.
    inl (ends_handed c.from_residual.result c.from_residual.ensures.1 (reason_then _ with_peer _ _ (c.in_err-config.ensures.reaches told)) (λ r. inl r))

pub returns-in_err-hearer-clause-listens : goal.returns-in_err-hearer-clause-listens
returns-in_err-hearer-clause-listens g c = λ told.
    inl (ends_handed c.from_residual-in_err-hearer.result c.from_residual-in_err-hearer.ensures.1
    (next_reason _ with_peer _ _ _ (c.in_ok-config.ensures.reaches told) c.in_err-hearer.ensures.begins) (λ never. absurd never))

pub returns-in_err-ending-clause-listens : goal.returns-in_err-ending-clause-listens
returns-in_err-ending-clause-listens g c = λ told.
    inl (ends_handed c.from_residual-in_err-ending.result c.from_residual-in_err-ending.ensures.1 (inr c.in_err-ending.ensures.broken) (λ r. inr (inr r)))

pub returns-clause-listens : goal.returns-clause-listens
returns-clause-listens g c = λ told.
    told_desk _ _ (with_wire g.W.Wire c.args.wire.now c.hear.new.wire
    (happened g.F.Files g.S.Sink c.args.files.now c.load_config.new.files c.args.sink.now c.tell_listing.new.sink)) _
    (c.in_ok-config.config, c.in_ok-hearer.ensures.begins.peer) c.hear.new.hearer.desk c.in_ok-ending.ending
    (hearing_found c.args.order.now.limit (g.F.Files.holds c.args.files.now) c.args.order.now.config.now _ _
    (c.in_ok-config.ensures.reaches told) c.in_ok-hearer.ensures.begins.peer_is)
    (heard_as c.in_ok-hearer.ensures.begins _ _ _ _ c.in_ok-ending.ensures.heard)
    (rw (← c.desk.ensures) c.tell_listing.ensures.told)

pub returns-in_err-ending-clause-possible : goal.returns-in_err-ending-clause-possible
returns-in_err-ending-clause-possible g c =
    (broken_session c.from_residual-in_err-ending.result c.from_residual-in_err-ending.ensures.1 c.in_err-ending.ensures.broken).1

pub returns-in_err-ending-clause-stopped : goal.returns-in_err-ending-clause-stopped
returns-in_err-ending-clause-stopped g c = λ told refusal stop.
    not_stopped
    (hearing_found c.args.order.now.limit (g.F.Files.holds c.args.files.now) c.args.order.now.config.now _ _
    (c.in_ok-config.ensures.reaches told) c.in_ok-hearer.ensures.begins.peer_is)
    stop

pub returns-clause-stopped : goal.returns-clause-stopped
returns-clause-stopped g c = λ told refusal stop.
    not_stopped
    (hearing_found c.args.order.now.limit (g.F.Files.holds c.args.files.now) c.args.order.now.config.now _ _
    (c.in_ok-config.ensures.reaches told) c.in_ok-hearer.ensures.begins.peer_is)
    stop
