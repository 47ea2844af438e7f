-- What happened outside in one call: what the files, the sink and the wire show of themselves before it and behind it.
-- Clauses take it as one argument, so that an object outside is named here alone.
use Rattle.std.specs.Prelude.{ℕ, List, Option, ◌≡◌, ◌<◌, ◌-◌, ◌^◌}
use Rattle.fs_base.specs.{Outside.{Rose}, Sink.{Grew}}
use Rattle.fs_outside.specs.declared.files.Files as files
use Rattle.fs_outside.specs.declared.sink.Sink as sink
use Rattle.fs_outside.specs.declared.wire.Wire as wire

-- the outside at one moment: the faults so far of each object, and what the sink tells of what was written
pub record Seen : Type 0 where
  pub file_faults : ℕ
  pub sink_faults : ℕ
  pub wire_faults : ℕ
  pub written : Option (List ℕ)

pub record Happened : Type 0 where
  pub before : Seen
  pub now : Seen

-- at a sink alone; in a clause: `at_sink S.Sink sink.old sink.new`
abbrev pub at_sink : {S : Type 0} → sink.Ghosts S → (before now : S) → Happened
at_sink of_sink before now = record {
  before = record { file_faults = 0; sink_faults = of_sink.faults before; wire_faults = 0; written = of_sink.written before };
  now = record { file_faults = 0; sink_faults = of_sink.faults now; wire_faults = 0; written = of_sink.written now };
}

-- and at files
abbrev pub with_files : {F : Type 0} → files.Ghosts F → (before now : F) → Happened → Happened
with_files of_files before now call = record {
  before = record call.before { file_faults = of_files.faults before };
  now = record call.now { file_faults = of_files.faults now };
}

-- and at a wire
abbrev pub with_wire : {W : Type 0} → wire.Ghosts W → (before now : W) → Happened → Happened
with_wire of_wire before now call = record {
  before = record call.before { wire_faults = of_wire.faults before };
  now = record call.now { wire_faults = of_wire.faults now };
}

-- at files and a sink; in a clause: `happened F.Files S.Sink files.old files.new sink.old sink.new`
abbrev pub happened : {F S : Type 0} → files.Ghosts F → sink.Ghosts S → (before now : F) → (before now : S) → Happened
happened of_files of_sink files files_now sink sink_now = with_files of_files files files_now (at_sink of_sink sink sink_now)

abbrev pub FilesFailed : Happened → Type 0
FilesFailed call = Rose call.before.file_faults call.now.file_faults

abbrev pub SinkFailed : Happened → Type 0
SinkFailed call = Rose call.before.sink_faults call.now.sink_faults

abbrev pub WireFailed : Happened → Type 0
WireFailed call = Rose call.before.wire_faults call.now.wire_faults

-- the text was written, where the sink tells it
abbrev pub Wrote : Happened → List ℕ → Type 0
Wrote call text = Grew call.before.written call.now.written text

-- The count stands, and could have risen: no call failed.
pub record Stood (before now : ℕ) : Type 0 where
  pub stands : now ≡ before
  pub below : before < 2 ^ 64 - 1

abbrev pub FilesStood : Happened → Type 0
FilesStood call = Stood call.before.file_faults call.now.file_faults

abbrev pub SinkStood : Happened → Type 0
SinkStood call = Stood call.before.sink_faults call.now.sink_faults

abbrev pub WireStood : Happened → Type 0
WireStood call = Stood call.before.wire_faults call.now.wire_faults
