use Rattle.cmd_enforce.proofs.{Words.{◌∙◌}, Surveying.{opened_verdict, verdict_done}}
use Rattle.std.specs.Prelude.{string_bytes}
use Rattle.cmd_enforce.specs.Survey.{survey_in}
use Rattle.cmd_enforce.proofs.survey.survey_capture.Goals as goal

pub returns-in_ok-survey_text-in-Ok-clause-said : goal.returns-in_ok-survey_text-in-Ok-clause-said
returns-in_ok-survey_text-in-Ok-clause-said g c = λ told.
    let left = g.F.Files.left c.open.new.files 2 in
    let counted = rw c.in-Ok.is at (c.in_ok-survey.ensures.surveyed told) in
    verdict_done (survey_in c.args.limit left) c.in-Ok.survey (string_bytes c.in_ok-survey_text-in-Ok.field-0) counted c.in_ok-survey_text-in-Ok.ensures
    ∙ opened_verdict c.args.limit (g.F.Files.holds c.args.files.now) c.args.name.now left (c.in_ok-open.ensures.opened told)
