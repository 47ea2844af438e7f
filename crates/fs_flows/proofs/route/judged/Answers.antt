use Rattle.fs_flows.proofs.Words.{ap, option_map, ◌∙◌, Path, peer_path, flow_route, judged}
use Rattle.fs_flows.proofs.route.judged.Goals as goal

pub returns : goal.returns
returns c = c.judged.ensures c.args.route.now.rule c.args.route.now.actions
    ∙ ap (λ (path : Path). judged c.args.config.now (flow_route c.args.route.now.peer c.args.route.now.rule path c.args.route.now.actions)
    (option_map peer_path c.args.basis.now.best) c.args.basis.now.others) c.path.ensures
