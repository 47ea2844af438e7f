use Rattle.fs_flows.proofs.Words.{◌≡◌, drop, keep_along, is_of_other}
use Rattle.fs_flows.proofs.groups.forget_along.Given as goal

abbrev pub invariant-loop-destination : goal.invariant-loop-destination
invariant-loop-destination l =
    keep_along (drop l.destination-index l.destinations) (is_of_other l.peer) l.groups.entries
    ≡ keep_along l.destinations (is_of_other l.peer) l.fn.groups.entries
