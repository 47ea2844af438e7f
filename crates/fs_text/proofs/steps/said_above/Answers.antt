use Rattle.fs_text.proofs.{Words.{subst, action_text, IsNamed, Reads}, Stepped.{said}}
use Rattle.fs_text.proofs.steps.said_above.Goals as goal

pub returns-in-Some-clause-read : goal.returns-in-Some-clause-read
returns-in-Some-clause-read c =
    said c.args.actions.now c.args.name.now c.args.word.now c.in-Some.action c.above.result
    (subst (Reads (IsNamed c.args.name.now) action_text c.args.word.now) c.in-Some.is c.in_ok-action.ensures) c.above.ensures.some c.above.ensures.none
