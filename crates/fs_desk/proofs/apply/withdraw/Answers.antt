use Rattle.fs_desk.proofs.{Words.{◌∙◌, unicast_in}, Idle.{both_none}}
use Rattle.fs_desk.proofs.apply.withdraw.Goals as goal

pub returns-clause-told : goal.returns-clause-told
returns-clause-told g c = λ base h. c.withdraw_routes.ensures.told base (c.withdraw_prefixes.ensures.told base h)

pub returns-clause-idle : goal.returns-clause-idle
returns-clause-idle g c = λ none no_rule.
    let each = both_none c.args.prefixes (unicast_in c.args.routes) none in
    c.withdraw_routes.ensures.idle each.1 no_rule ∙ c.withdraw_prefixes.ensures.idle each.0
