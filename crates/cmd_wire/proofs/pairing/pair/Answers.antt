use Rattle.cmd_wire.proofs.Words.{inl, inr, happened, with_wire, OpensFront, answered_err, config_then}
use Rattle.cmd_wire.proofs.{Concluding.{told_desk}, FromPairing.{carries}, FromStages.{broken_session, ends_handed}, Statuses.{not_stopped}}
use Rattle.cmd_wire.proofs.pairing.pair.Goals as goal

pub returns-in_err-config-clause-joins : goal.returns-in_err-config-clause-joins
returns-in_err-config-clause-joins g c = λ told.
    inl (ends_handed c.from_residual.result c.from_residual.ensures.1 (c.in_err-config.ensures.reaches told) (λ r. inl r))

pub returns-in_err-ends-clause-joins : goal.returns-in_err-ends-clause-joins
returns-in_err-ends-clause-joins g c = λ told.
    inl (ends_handed c.from_residual-in_err-ends.result c.from_residual-in_err-ends.ensures.1 (inr c.in_err-ends.ensures.broken) (λ never. absurd never))

pub returns-in_err-ending-clause-joins : goal.returns-in_err-ending-clause-joins
returns-in_err-ending-clause-joins g c = λ told.
    inl (ends_handed c.from_residual-in_err-ending.result c.from_residual-in_err-ending.ensures.1 (inr c.in_err-ending.ensures.broken) (λ r. inr (inr r)))

pub returns-clause-joins : goal.returns-clause-joins
returns-clause-joins g c = λ told.
    let found = c.in_ok-config.ensures.reaches told in
    told_desk _ _ (with_wire g.W.Wire c.args.wire.now c.join.new.wire
    (happened g.F.Files g.S.Sink c.args.files.now c.load_both.new.files c.args.sink.now c.tell_listing.new.sink)) _
    (c.in_ok-config.config, c.in_ok-config.sending) c.join.new.ends.hearer.desk c.in_ok-ending.ending found
    (λ text lists. carries c.args.order.now.limit (g.F.Files.holds c.args.files.now) c.args.order.now.config.now c.args.order.now.rules.now _ _ _ _
    text found (c.in_ok-ending.ensures.joined _ _ text c.in_ok-ends.ensures.begins lists))
    (rw (← c.desk.ensures) c.tell_listing.ensures.told)

pub returns-in_err-ending-clause-unspoken : goal.returns-in_err-ending-clause-unspoken
returns-in_err-ending-clause-unspoken g c =
    λ three. absurd ((broken_session c.from_residual-in_err-ending.result c.from_residual-in_err-ending.ensures.1 c.in_err-ending.ensures.broken).0 three)

pub returns-clause-unspoken : goal.returns-clause-unspoken
returns-clause-unspoken g c = λ three. absurd (c.tell_listing.ensures.possible.0 three)

pub returns-in_err-ending-clause-unasked : goal.returns-in_err-ending-clause-unasked
returns-in_err-ending-clause-unasked g c =
    λ three. absurd ((broken_session c.from_residual-in_err-ending.result c.from_residual-in_err-ending.ensures.1 c.in_err-ending.ensures.broken).0 three)

pub returns-clause-unasked : goal.returns-clause-unasked
returns-clause-unasked g c = λ three. absurd (c.tell_listing.ensures.possible.0 three)

pub returns-in_err-ends-clause-possible : goal.returns-in_err-ends-clause-possible
returns-in_err-ends-clause-possible g c =
    (broken_session c.from_residual-in_err-ends.result c.from_residual-in_err-ends.ensures.1 c.in_err-ends.ensures.broken).1

pub returns-in_err-ending-clause-possible : goal.returns-in_err-ending-clause-possible
returns-in_err-ending-clause-possible g c =
    (broken_session c.from_residual-in_err-ending.result c.from_residual-in_err-ending.ensures.1 c.in_err-ending.ensures.broken).1

pub returns-in_err-ending-clause-stopped : goal.returns-in_err-ending-clause-stopped
returns-in_err-ending-clause-stopped g c = λ told refusal stop. not_stopped (c.in_ok-config.ensures.reaches told) stop

pub returns-clause-stopped : goal.returns-clause-stopped
returns-clause-stopped g c = λ told refusal stop. not_stopped (c.in_ok-config.ensures.reaches told) stop

pub returns-in_err-config-clause-opens : goal.returns-in_err-config-clause-opens
returns-in_err-config-clause-opens g c =
    answered_err (OpensFront (config_then 2 c.args.order.now.config.now c.args.order.now.rules.now) _ _) c.from_residual.result
    c.in_err-config.field-0.0 c.from_residual.ensures.1 c.in_err-config.ensures.opens
