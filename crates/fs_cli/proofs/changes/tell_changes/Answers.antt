use Rattle.fs_cli.proofs.Words.{◌⊎◌, inl, inr, Rose, Grew-trans, TellsSo, rose_earlier, answered_err, arith, config_then, opened_due, ap, refl}
use Rattle.fs_cli.proofs.Words.{refused_at}
use Rattle.fs_cli.proofs.Telling.{all_told, config_untold, either_on, end_told}
use Rattle.fs_cli.proofs.changes.tell_changes.Goals as goal

pub returns-in_err-config-clause-tells : goal.returns-in_err-config-clause-tells
returns-in_err-config-clause-tells g c = λ told.
    let failed = Rose (g.F.Files.faults c.args.files.now) (g.F.Files.faults c.load_config.new.files) in
    let written = g.S.Sink.written c.args.sink.now in
    answered_err (λ n. TellsSo c.args.limit (g.F.Files.holds c.args.files.now) c.args.config.now c.args.tape.now (failed
    ⊎ Rose (g.S.Sink.faults c.args.sink.now) (g.S.Sink.faults c.args.sink.now)) written written n)
    c.from_residual.result c.in_err-config.field-0.0 c.from_residual.ensures.1
    (config_untold c.args.limit (g.F.Files.holds c.args.files.now) c.args.config.now c.args.tape.now failed _ written c.in_err-config.field-0.0
    (c.in_err-config.ensures.reaches told) (λ r. inl r))

pub returns-in-Ok-clause-tells : goal.returns-in-Ok-clause-tells
returns-in-Ok-clause-tells g c = λ told.
    all_told c.args.limit (g.F.Files.holds c.args.files.now) (g.F.Files.holds c.load_config.new.files) c.args.config.now c.args.tape.now
    c.in_ok-config.config _ _ _
    (c.in_ok-config.ensures.reaches told) (c.in_ok-config.ensures.holds told) (c.in-Ok.ensures.follows told)

pub returns-clause-tells : goal.returns-clause-tells
returns-clause-tells g c = λ told.
    let before = g.F.Files.faults c.args.files.now in
    let mid = g.F.Files.faults c.load_config.new.files in
    let after = g.F.Files.faults c.tell_items.new.files in
    let sink = g.S.Sink.faults c.args.sink.now in
    let sink_mid = g.S.Sink.faults c.tell_items.new.sink in
    let sink_after = g.S.Sink.faults c.tell_refusal.new.sink in
    end_told c.args.limit (g.F.Files.holds c.args.files.now) (g.F.Files.holds c.load_config.new.files) c.args.config.now c.args.tape.now c.in_ok-config.config
    (Rose mid after ⊎ Rose sink sink_mid) (Rose sink_mid sink_after) (Rose before after ⊎ Rose sink sink_after) _ _ _ c.in-Err.refusal c.tell_refusal.result
    (c.in_ok-config.ensures.reaches told) (c.in_ok-config.ensures.holds told)
    (either_on before mid after sink sink_mid sink_after c.in_ok-config.ensures.later c.tell_refusal.ensures.later)
    (λ r. inr (rose_earlier _ _ _ c.in-Err.ensures.sink_later r))
    (c.in-Err.ensures.follows told) c.tell_refusal.ensures.said
    (λ four. let kept = c.tell_refusal.ensures.kept four in (kept.0, ap g.S.Sink.written kept.1))

pub returns-in_err-config-clause-opens : goal.returns-in_err-config-clause-opens
returns-in_err-config-clause-opens g c =
    refused_at (config_then 1 c.args.config.now c.args.tape.now) 1 (omega (arith)) _ _ c.from_residual.result c.in_err-config.field-0.0
    c.from_residual.ensures.1
    c.in_err-config.ensures.opens (λ three. omega (arith))

pub returns-in-Ok-clause-opens : goal.returns-in-Ok-clause-opens
returns-in-Ok-clause-opens g c =
    opened_due (config_then 1 c.args.config.now c.args.tape.now) 2 (omega (arith)) _ _ _ _
    (Grew-trans _ _ _ _ _ c.in_ok-config.ensures.opens c.in-Ok.ensures.opens) refl (omega (arith))
    (λ three. absurd cc)

pub returns-clause-opens : goal.returns-clause-opens
returns-clause-opens g c =
    opened_due (config_then 1 c.args.config.now c.args.tape.now) 2 (omega (arith)) _ _ _ _
    (Grew-trans _ _ _ _ _ c.in_ok-config.ensures.opens c.in-Err.ensures.opens) refl (omega (arith))
    (λ three. absurd (c.tell_refusal.ensures.possible.0 three))

pub returns-in-Ok-clause-quiet : goal.returns-in-Ok-clause-quiet
returns-in-Ok-clause-quiet g c = λ three. absurd cc

pub returns-clause-quiet : goal.returns-clause-quiet
returns-clause-quiet g c = λ three. absurd (c.tell_refusal.ensures.possible.0 three)
