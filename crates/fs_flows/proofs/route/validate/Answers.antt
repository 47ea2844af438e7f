use Rattle.fs_flows.proofs.Words.{ap, ◌∙◌, Path, flow_route, validity}
use Rattle.fs_flows.proofs.route.validate.Goals as goal

pub returns-clause-validity : goal.returns-clause-validity
returns-clause-validity g c = c.validity_of.ensures.validity c.args.route.now.actions
    ∙ ap (λ (path : Path). validity c.args.unicast.now c.args.config.now
    (flow_route c.args.route.now.peer c.args.route.now.rule path c.args.route.now.actions)) c.path.ensures
