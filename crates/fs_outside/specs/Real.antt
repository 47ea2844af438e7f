-- What the real outside counts.
use Rattle.std.specs.Prelude.{ℕ}
use Rattle.fs_outside.specs.declared.{real.{RealFiles.{RealFiles}, RealOut.{RealOut}}, real_wire.RealWire.{RealWire}}
use Rattle.fs_outside.specs.declared.{real_clock.RealClock.{RealClock}, real_gate.RealGate.{RealGate}}

abbrev pub real_files_faults : {R File A : Type 0} → RealFiles R File A → ℕ
real_files_faults files = files.slots.faults

abbrev pub real_out_faults : {W : Type 0} → RealOut W → ℕ
real_out_faults out = out.faults

abbrev pub real_wire_faults : {R Stream Listener : Type 0} → RealWire R Stream Listener → ℕ
real_wire_faults wire = wire.streams.faults

-- the last answer of the clock, in milliseconds
abbrev pub real_clock_last : {R : Type 0} → RealClock R → ℕ
real_clock_last clock = clock.last

abbrev pub real_gate_faults : {R Stream Listener File Dir : Type 0} → RealGate R Stream Listener File Dir → ℕ
real_gate_faults gate = gate.faults
