use Rattle.std.proofs.Common.{◌≡◌, ◌≤◌, ◌+◌, length}
use Rattle.try_calls.specs.Counter.{IsCountedBy}
use Rattle.try_calls.proofs.surface.put_rules.Given as goal

abbrev pub invariant-loop-rule : goal.invariant-loop-rule
invariant-loop-rule g l = record {
  unicast : l.table.unicast ≡ l.fn.table.unicast;
  related : IsCountedBy l.table l.destinations.items;
  steps : l.steps ≤ l.fn.steps + length l.destinations.items;
}
