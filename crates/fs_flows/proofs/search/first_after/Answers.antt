use Rattle.fs_flows.proofs.Searching.{next_in_range, no_next_in_range}
use Rattle.fs_flows.proofs.search.first_after.Goals as goal

pub returns-in-Some : goal.returns-in-Some
returns-in-Some c = next_in_range c.args.low.now c.args.groups.now.entries c.range.ensures.ordered c.range.result (
  c.in-Some.destination.now,
  c.in-Some.field-0-1.now,
) c.next.new.self (c.range.ensures.between tt) c.in-Some.ensures.steps

pub returns-in-None : goal.returns-in-None
returns-in-None c = no_next_in_range c.args.low.now c.args.groups.now.entries c.range.result (c.range.ensures.between tt) c.in-None.ensures.steps.0
