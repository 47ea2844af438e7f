use Rattle.fs_cli.proofs.Words.{◌≢◌, answered_err}
use Rattle.cmd_stages.specs.Refusal.{IsOfFile}
use Rattle.fs_cli.proofs.file_check.say_of_config.Goals as goal

pub returns-in_err-octets-clause-possible : goal.returns-in_err-octets-clause-possible
returns-in_err-octets-clause-possible g c =
    answered_err (λ n. IsOfFile n × (n ≢ 3)) c.from_residual.result c.in_err-octets.field-0.0 c.from_residual.ensures.1
    (c.in_err-octets.ensures.possible, c.in_err-octets.ensures.unjudged)
