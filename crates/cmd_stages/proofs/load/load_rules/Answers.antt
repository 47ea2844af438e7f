use Rattle.cmd_stages.proofs.Sendable.{rules_sendable}
use Rattle.cmd_stages.proofs.load.load_rules.Goals as goal

pub returns-in-Ok-clause-sendable : goal.returns-in-Ok-clause-sendable
returns-in-Ok-clause-sendable g c = rules_sendable c.args.config.now _ c.in-Ok.sending c.in-Ok.ensures.ok
