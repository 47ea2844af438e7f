use Rattle.fs_text.proofs.Stepped.{none_stands}
use Rattle.fs_text.proofs.steps.can_stand.Goals as goal

pub returns-in-Some-clause-no : goal.returns-in-Some-clause-no
returns-in-Some-clause-no c = λ no_ action named above.
    none_stands c.args.actions.now c.args.name.now c.in-Some.action c.in-Some.ensures (λ up. absurd (cc (c.goes_behind.ensures.1 up, no_))) action named above
