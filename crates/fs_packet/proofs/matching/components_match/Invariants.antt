use Rattle.fs_packet.proofs.Matched.{Matching}
use Rattle.fs_packet.proofs.matching.components_match.Given as goal

abbrev pub invariant-loop-component : goal.invariant-loop-component
invariant-loop-component l = Matching l.view l.components l.component-index
