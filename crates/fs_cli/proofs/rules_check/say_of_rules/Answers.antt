use Rattle.fs_cli.proofs.Words.{ℕ, List, subst, refl, arith, Rose, Memory, Grew-trans, rose_earlier, answered_err, config_then, opened_due}
use Rattle.fs_cli.proofs.Words.{refused_at}
use Rattle.fs_cli.proofs.RulesChecking.{rules_said, rules_unsaid}
use Rattle.cmd_stages.{specs.{Refusal.{IsOfFile}, Said.{said_shown}}, proofs.Stages.{match_err}}
use Rattle.fs_cli.specs.RulesCheck.{JudgesRules}
use Rattle.fs_cli.proofs.rules_check.say_of_rules.Goals as goal

pub returns-in_err-accepted-clause-possible : goal.returns-in_err-accepted-clause-possible
returns-in_err-accepted-clause-possible g c =
    answered_err IsOfFile c.from_residual.result c.in_err-accepted.field-0.0 c.from_residual.ensures.1 c.in_err-accepted.ensures.possible

pub returns-in_err-octets-clause-possible : goal.returns-in_err-octets-clause-possible
returns-in_err-octets-clause-possible g c =
    answered_err IsOfFile c.from_residual-in_err-octets.result c.in_err-octets.field-0.0 c.from_residual-in_err-octets.ensures.1
    c.in_err-octets.ensures.possible

pub returns-in_err-octets-clause-said : goal.returns-in_err-octets-clause-said
returns-in_err-octets-clause-said g c = λ told.
    match_err _ _ c.from_residual-in_err-octets.result c.from_residual-in_err-octets.ensures.1 (λ refusal same.
    rules_unsaid c.args.limit (g.F.Files.holds c.args.files.now) (g.F.Files.holds c.load_config.new.files) c.args.config.now c.args.rules.now
    c.in_ok-accepted.accepted
    (Rose (g.F.Files.faults c.load_config.new.files) (g.F.Files.faults c.load_file.new.files)) _ c.in_err-octets.field-0.0 refusal same
    (c.in_ok-accepted.ensures.reaches told) (c.in_ok-accepted.ensures.holds told) (c.in_err-octets.ensures.reaches told)
    (λ r. rose_earlier _ _ _ c.in_ok-accepted.ensures.later r))

pub returns-in_err-accepted-clause-opens : goal.returns-in_err-accepted-clause-opens
returns-in_err-accepted-clause-opens g c =
    refused_at (config_then 1 c.args.config.now c.args.rules.now) 1 (omega (arith)) _ _ c.from_residual.result c.in_err-accepted.field-0.0
    c.from_residual.ensures.1
    c.in_err-accepted.ensures.opens (λ three. omega (arith))

pub returns-in_err-octets-clause-opens : goal.returns-in_err-octets-clause-opens
returns-in_err-octets-clause-opens g c =
    refused_at (config_then 1 c.args.config.now c.args.rules.now) 2 (omega (arith)) _ _ c.from_residual-in_err-octets.result c.in_err-octets.field-0.0
    c.from_residual-in_err-octets.ensures.1
    (Grew-trans _ _ _ _ _ c.in_ok-accepted.ensures.opens c.in_err-octets.ensures.opens) (λ three. absurd (c.in_err-octets.ensures.unjudged three))

pub returns-in_err-said_of_rules-clause-opens : goal.returns-in_err-said_of_rules-clause-opens
returns-in_err-said_of_rules-clause-opens g c =
    refused_at (config_then 1 c.args.config.now c.args.rules.now) 2 (omega (arith)) _ _ c.from_residual-in_err-said_of_rules.result Memory
    c.from_residual-in_err-said_of_rules.ensures.1
    (Grew-trans _ _ _ _ _ c.in_ok-accepted.ensures.opens c.in_ok-octets.ensures.opens) (λ three. absurd cc)

pub returns-clause-said : goal.returns-clause-said
returns-clause-said g c = λ told.
    rules_said c.args.limit (g.F.Files.holds c.args.files.now) (g.F.Files.holds c.load_config.new.files) c.args.config.now c.args.rules.now
    c.in_ok-octets.octets.items c.in_ok-accepted.accepted
    (said_shown c.in_ok-said_of_rules.field-0) (c.in_ok-accepted.ensures.reaches told) (c.in_ok-accepted.ensures.holds told)
    (c.in_ok-octets.ensures.reaches told)
    (subst (λ (octets : List ℕ). JudgesRules c.in_ok-accepted.accepted octets (said_shown c.in_ok-said_of_rules.field-0)) c.deref.ensures.value
    c.in_ok-said_of_rules.ensures.judged)

pub returns-clause-opens : goal.returns-clause-opens
returns-clause-opens g c =
    opened_due (config_then 1 c.args.config.now c.args.rules.now) 2 (omega (arith)) _ _ _ _
    (Grew-trans _ _ _ _ _ c.in_ok-accepted.ensures.opens c.in_ok-octets.ensures.opens) refl (omega (arith))
    (λ three. absurd cc)
