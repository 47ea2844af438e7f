use Rattle.fs_nlri.proofs.Fed.{one_more}
use Rattle.std.proofs.Common.{[]}
use Rattle.fs_attrs.proofs.routes.read_rules.Goals as goal

pub loop-rest-preserved : goal.loop-rest-preserved
loop-rest-preserved c =
    one_more c.args.family c.args.octets.now c.loop-rest.rest.now [] c.loop-rest.rules.items _ _ c.in_ok-rule.count c.loop-rest.invariant
    c.in_ok-rule.ensures.family c.in_ok-rule.ensures.found c.in_ok-push.ensures.items
