use Rattle.cmd_wire.proofs.{Words.{rose_earlier, Grew-trans, arith, config_then, opened_due, refl, refused_at}, FromStages.{rules_handed, sending_found}}
use Rattle.cmd_wire.proofs.announcing.load_both.Goals as goal

pub returns-in_err-sending-clause-reaches : goal.returns-in_err-sending-clause-reaches
returns-in_err-sending-clause-reaches g c = λ told.
    rules_handed _ c.args.limit (g.F.Files.holds c.args.files.now) _ c.args.config.now c.args.rules.now _ _ _
    c.from_residual-in_err-sending.result c.in_err-sending.field-0.0 c.from_residual-in_err-sending.ensures.1
    (c.in_ok-config.ensures.reaches told) (c.in_ok-config.ensures.holds told) (c.in_err-sending.ensures.reaches told)
    (rose_earlier _ _ _ c.in_ok-config.ensures.later)

pub returns-clause-reaches : goal.returns-clause-reaches
returns-clause-reaches g c = λ told.
    sending_found c.args.limit (g.F.Files.holds c.args.files.now) _ c.args.config.now c.args.rules.now _ _
    (c.in_ok-config.ensures.reaches told) (c.in_ok-config.ensures.holds told) (c.in_ok-sending.ensures.reaches told)

pub returns-in_err-config-clause-opens : goal.returns-in_err-config-clause-opens
returns-in_err-config-clause-opens g c =
    refused_at (config_then 2 c.args.config.now c.args.rules.now) 1 (omega (arith)) _ _ c.from_residual.result c.in_err-config.field-0.0
    c.from_residual.ensures.1 c.in_err-config.ensures.opens (λ three. omega (arith))

pub returns-in_err-sending-clause-opens : goal.returns-in_err-sending-clause-opens
returns-in_err-sending-clause-opens g c =
    opened_due (config_then 2 c.args.config.now c.args.rules.now) 2 (omega (arith)) _ _ _ _
    (Grew-trans _ _ _ _ _ c.in_ok-config.ensures.opens c.in_err-sending.ensures.opens) refl (omega (arith)) (λ three. omega (arith))

pub returns-clause-opens : goal.returns-clause-opens
returns-clause-opens g c =
    opened_due (config_then 2 c.args.config.now c.args.rules.now) 2 (omega (arith)) _ _ _ _
    (Grew-trans _ _ _ _ _ c.in_ok-config.ensures.opens c.in_ok-sending.ensures.opens) refl (omega (arith)) (λ three. omega (arith))

pub returns-clause-both : goal.returns-clause-both
returns-clause-both g c =
    Grew-trans _ _ _ _ _ c.in_ok-config.ensures.opens c.in_ok-sending.ensures.opens
