use Rattle.std.proofs.Common.{◌∙◌, sym}
use Rattle.cmd_stages.proofs.LookingAhead.{leaves_until, none_due}
use Rattle.cmd_stages.proofs.player.Player.is_due.Goals as goal

pub returns-clause-still : goal.returns-clause-still
returns-clause-still c = λ none items left s.
    leaves_until items c.args.moment c.args.self.now left s (sym c.due.ensures ∙ none_due c.due.result (sym c.is_some.ensures ∙ none))
