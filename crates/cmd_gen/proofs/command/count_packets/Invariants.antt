use Rattle.cmd_gen.proofs.Words.{◌≡◌, ◌≤◌, ◌+◌, behind_pairs, packets, AdmittedRules, HasRoom, StandsFor, dropped_of, passed_of}
use Rattle.std.specs.Prelude.{vec_capacity}
use Rattle.cmd_gen.proofs.command.count_packets.Given as goal

abbrev pub invariant-packets : goal.invariant-packets
invariant-packets l = record {
  draws : l.draws.state ≡ behind_pairs l.count (l.count + l.counter);
  room : HasRoom l.rules (vec_capacity l.walked);
  passed : (admitted : AdmittedRules) → StandsFor admitted l.rules → l.tally.passed ≡ passed_of admitted (packets l.count l.counter);
  dropped : (admitted : AdmittedRules) → StandsFor admitted l.rules → l.tally.dropped ≡ dropped_of admitted (packets l.count l.counter);
  passed_few : l.tally.passed ≤ l.counter;
  dropped_few : l.tally.dropped ≤ l.counter;
}
