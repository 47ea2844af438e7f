use Rattle.fs_cli.proofs.Words.{◌⊎◌, inl, inr, Rose, Grew-trans, ListsSo, text_for, untimed, rose_earlier, answered_err, arith, config_then}
use Rattle.fs_cli.proofs.Words.{opened_due, refl, refused_at}
use Rattle.fs_cli.proofs.Surveying.{config_unlisted, tape_unlisted, desk_listed}
use Rattle.std.proofs.lemmas.Result.{IfOk-weaker}
use Rattle.fs_cli.proofs.survey.survey_tape.Goals as goal

pub returns-in_err-config-clause-lists : goal.returns-in_err-config-clause-lists
returns-in_err-config-clause-lists g c = λ told.
    answered_err (λ n. ListsSo (text_for c.args.survey) c.args.limit (g.F.Files.holds c.args.files.now) c.args.config.now c.args.tape.now
    (Rose (g.F.Files.faults c.args.files.now) (g.F.Files.faults c.load_config.new.files)
    ⊎ Rose (g.S.Sink.faults c.args.sink.now) (g.S.Sink.faults c.args.sink.now)) (g.S.Sink.written c.args.sink.now)
    (g.S.Sink.written c.args.sink.now) n) c.from_residual.result c.in_err-config.field-0.0 c.from_residual.ensures.1
    (config_unlisted (text_for c.args.survey) c.args.limit (g.F.Files.holds c.args.files.now) c.args.config.now c.args.tape.now
    (Rose (g.F.Files.faults c.args.files.now) (g.F.Files.faults c.load_config.new.files))
    (Rose (g.F.Files.faults c.args.files.now) (g.F.Files.faults c.load_config.new.files)
    ⊎ Rose (g.S.Sink.faults c.args.sink.now) (g.S.Sink.faults c.args.sink.now)) (g.S.Sink.written c.args.sink.now) c.in_err-config.field-0.0
    (c.in_err-config.ensures.reaches told) c.in_err-config.ensures.possible.0 (λ r. inl r))

pub returns-in-Ok-clause-lists : goal.returns-in-Ok-clause-lists
returns-in-Ok-clause-lists g c = λ told.
    desk_listed (text_for c.args.survey) c.args.limit (g.F.Files.holds c.args.files.now) (g.F.Files.holds c.load_config.new.files) c.args.config.now
    c.args.tape.now c.in_ok-config.config c.in-Ok.desk
    (Rose (g.S.Sink.faults c.args.sink.now) (g.S.Sink.faults c.write_made.new.sink))
    (Rose (g.F.Files.faults c.args.files.now) (g.F.Files.faults c.play_whole.new.files)
    ⊎ Rose (g.S.Sink.faults c.args.sink.now) (g.S.Sink.faults c.write_made.new.sink)) (g.S.Sink.written c.args.sink.now)
    (g.S.Sink.written c.write_made.new.sink) c.write_made.result
    (c.in_ok-config.ensures.reaches told) (c.in_ok-config.ensures.holds told) (c.in-Ok.ensures.played told) (λ r. inr r)
    (c.write_made.ensures.written (text_for c.args.survey c.in_ok-config.config (untimed (c.in-Ok.ensures.played told).items) c.in-Ok.desk.held)
    (IfOk-weaker c.survey_text.result _ _
    (λ text h. h c.in_ok-config.config (untimed (c.in-Ok.ensures.played told).items) (c.in-Ok.ensures.played told).played)
    c.survey_text.ensures))

pub returns-clause-lists : goal.returns-clause-lists
returns-clause-lists g c = λ told.
    tape_unlisted (text_for c.args.survey) c.args.limit (g.F.Files.holds c.args.files.now) (g.F.Files.holds c.load_config.new.files) c.args.config.now
    c.args.tape.now c.in_ok-config.config
    (Rose (g.F.Files.faults c.load_config.new.files) (g.F.Files.faults c.play_whole.new.files))
    (Rose (g.S.Sink.faults c.args.sink.now) (g.S.Sink.faults c.tell_refusal.new.sink))
    (Rose (g.F.Files.faults c.args.files.now) (g.F.Files.faults c.play_whole.new.files)
    ⊎ Rose (g.S.Sink.faults c.args.sink.now) (g.S.Sink.faults c.tell_refusal.new.sink)) (g.S.Sink.written c.args.sink.now)
    (g.S.Sink.written c.tell_refusal.new.sink) c.in-Err.refusal c.tell_refusal.result
    (c.in_ok-config.ensures.reaches told) (c.in_ok-config.ensures.holds told) (c.in-Err.ensures.played told)
    (λ r. inl (rose_earlier _ _ _ c.in_ok-config.ensures.later r)) (λ r. inr r)
    c.tell_refusal.ensures.said

pub returns-in_err-config-clause-opens : goal.returns-in_err-config-clause-opens
returns-in_err-config-clause-opens g c =
    refused_at (config_then 1 c.args.config.now c.args.tape.now) 1 (omega (arith)) _ _ c.from_residual.result c.in_err-config.field-0.0
    c.from_residual.ensures.1
    c.in_err-config.ensures.opens (λ three. omega (arith))

pub returns-in-Ok-clause-opens : goal.returns-in-Ok-clause-opens
returns-in-Ok-clause-opens g c =
    opened_due (config_then 1 c.args.config.now c.args.tape.now) 2 (omega (arith)) _ _ _ _
    (Grew-trans _ _ _ _ _ c.in_ok-config.ensures.opens c.in-Ok.ensures.opens) refl (omega (arith))
    (λ three. absurd (c.write_made.ensures.late.0 three))

pub returns-clause-opens : goal.returns-clause-opens
returns-clause-opens g c =
    opened_due (config_then 1 c.args.config.now c.args.tape.now) 2 (omega (arith)) _ _ _ _
    (Grew-trans _ _ _ _ _ c.in_ok-config.ensures.opens c.in-Err.ensures.opens) refl (omega (arith))
    (λ three. absurd (c.tell_refusal.ensures.possible.0 three))
