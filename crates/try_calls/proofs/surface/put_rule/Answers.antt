use Rattle.try_calls.proofs.Rising.{count_held}
use Rattle.try_calls.proofs.surface.put_rule.Goals as goal

pub returns-clause-related : goal.returns-clause-related
returns-clause-related g c = λ p. count_held p c.destination-destination.result _ c.args.table.now c.put_flow.new.self
    c.destination-destination.ensures.value c.in_ok-put_flow.ensures.ok
