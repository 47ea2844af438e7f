use Rattle.cmd_convert.proofs.{Words.{Rose, rose_earlier, refl, Grew-trans, arith, config_then, opened_due, refused_at}, Surveying.{accepted_due, due_as}}
use Rattle.cmd_stages.specs.Refusal.{or_stop}
use Rattle.cmd_stages.specs.declared.refusal.Refusal.TheVariants.{Outside}
use Rattle.cmd_convert.specs.Survey.{content_verdict, dump_verdict}
use Rattle.cmd_convert.proofs.survey.survey_dump.Goals as goal

pub returns-clause-said : goal.returns-clause-said
returns-clause-said g c = λ told.
    let holds = g.F.Files.holds c.args.files.now in
    let config = c.in_ok-config.config in
    due_as c.survey_file.result (content_verdict config c.args.limit (or_stop Outside (g.F.Files.holds c.load_config.new.files c.args.dump.now)))
    (dump_verdict c.args.limit holds c.args.config.now c.args.dump.now)
    (Rose (g.F.Files.faults c.load_config.new.files) (g.F.Files.faults c.survey_file.new.files))
    (Rose (g.F.Files.faults c.args.files.now) (g.F.Files.faults c.survey_file.new.files))
    (accepted_due c.args.limit holds (g.F.Files.holds c.load_config.new.files) c.args.config.now c.args.dump.now config
    (c.in_ok-config.ensures.reaches told) (c.in_ok-config.ensures.holds told))
    (λ r. rose_earlier _ _ _ c.in_ok-config.ensures.later r) (c.survey_file.ensures.said told)

pub returns-in_err-config-clause-opens : goal.returns-in_err-config-clause-opens
returns-in_err-config-clause-opens g c =
    let both = config_then 1 c.args.config.now c.args.dump.now in
    refused_at both 1 (omega (arith)) _ _ c.from_residual.result c.in_err-config.field-0.0 c.from_residual.ensures.1
    c.in_err-config.ensures.opens (λ three. omega (arith))

pub returns-clause-opens : goal.returns-clause-opens
returns-clause-opens g c =
    let both = config_then 1 c.args.config.now c.args.dump.now in
    opened_due both 2 (omega (arith)) _ _ _ _ (Grew-trans _ _ _ _ _ c.in_ok-config.ensures.opens c.survey_file.ensures.opens) refl (omega (arith))
    (λ three. absurd (c.survey_file.ensures.possible.2 three))
