use Rattle.std.proofs.Common.{◌≡◌}
use Rattle.fs_outside.proofs.real_gate.RealGate.wait.Given as goal

abbrev pub invariant-loop : goal.invariant-loop
invariant-loop g l = l.self.faults ≡ l.initial.self.faults
