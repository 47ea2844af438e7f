use Rattle.try_calls.proofs.Rising.{sum_held}
use Rattle.try_calls.proofs.surface.put_net.Goals as goal

pub returns-clause-sum : goal.returns-clause-sum
returns-clause-sum g c =
    sum_held 1 _ _ c.args.table.now c.put_unicast.new.self c.args.destinations.now c.count_related-related.result
    c.in_ok-put_unicast.ensures.ok c.requires c.count_related-related.ensures
