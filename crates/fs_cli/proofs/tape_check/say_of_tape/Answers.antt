use Rattle.fs_cli.proofs.{Words.{refl, arith, Memory, Grew-trans, config_then, opened_due, refused_at}, TapeChecking.{tape_told}}
use Rattle.cmd_stages.specs.Said.{said_shown}
use Rattle.fs_cli.proofs.tape_check.say_of_tape.Goals as goal

pub returns-in-Ok-clause-said : goal.returns-in-Ok-clause-said
returns-in-Ok-clause-said g c = λ told.
    tape_told c.args.limit (g.F.Files.holds c.args.files.now) (g.F.Files.holds c.load_config.new.files) c.args.config.now c.args.tape.now
    c.in_ok-accepted.accepted c.in-Ok.counted.version c.in-Ok.counted.counts
    (said_shown c.in_ok-said_of_tape-in-Ok.field-0) (c.in_ok-accepted.ensures.reaches told) (c.in_ok-accepted.ensures.holds told)
    (c.in-Ok.ensures.counted told) c.in_ok-said_of_tape-in-Ok.ensures

pub returns-in-Ok-clause-opens : goal.returns-in-Ok-clause-opens
returns-in-Ok-clause-opens g c =
    opened_due (config_then 1 c.args.config.now c.args.tape.now) 2 (omega (arith)) _ _ _ _
    (Grew-trans _ _ _ _ _ c.in_ok-accepted.ensures.opens c.in-Ok.ensures.opens) refl (omega (arith))
    (λ three. absurd cc)

pub returns-in_err-said_of_fault-in-Some-clause-opens : goal.returns-in_err-said_of_fault-in-Some-clause-opens
returns-in_err-said_of_fault-in-Some-clause-opens g c =
    refused_at (config_then 1 c.args.config.now c.args.tape.now) 2 (omega (arith)) _ _ c.from_residual-in_err-said_of_fault-in-Some.result Memory
    c.from_residual-in_err-said_of_fault-in-Some.ensures.1
    (Grew-trans _ _ _ _ _ c.in_ok-accepted.ensures.opens c.in-Err.ensures.opens) (λ three. absurd cc)

pub returns-in-Some-clause-opens : goal.returns-in-Some-clause-opens
returns-in-Some-clause-opens g c =
    opened_due (config_then 1 c.args.config.now c.args.tape.now) 2 (omega (arith)) _ _ _ _
    (Grew-trans _ _ _ _ _ c.in_ok-accepted.ensures.opens c.in-Err.ensures.opens) refl (omega (arith))
    (λ three. absurd cc)

pub returns-clause-opens : goal.returns-clause-opens
returns-clause-opens g c =
    opened_due (config_then 1 c.args.config.now c.args.tape.now) 2 (omega (arith)) _ _ _ _
    (Grew-trans _ _ _ _ _ c.in_ok-accepted.ensures.opens c.in-Err.ensures.opens) refl (omega (arith))
    (λ three. absurd (c.in-Err.ensures.possible.0 three))
