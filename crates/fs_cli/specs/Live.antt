-- What a run of the program beside a gate promises.
use Rattle.std.specs.{Prelude.{◌≡◌, ◌&&◌, ℕ, List, [], ◌∷◌, Option, Some, None, if◌then◌else◌, codes}, Str.{bytes_eq}}
use Rattle.fs_base.specs.declared.Gate as gate
use Rattle.cmd_stages.specs.{Load.{OpensFront, config_alone, config_stage}, Refusal.{Stopped}, declared.refusal.Refusal.{Refusal}}
use Rattle.cmd_wire.specs.{Keeping.{EndsKeeping, IsOfKeeping, KeepsSo}, Recording.{AtGate, EndsRecording, IsOfRecording, RecordsSo, at_gate}}
use Rattle.fs_cli.specs.Command.{is_name}
use Rattle.fs_cli.specs.Program.{AreTold, ClockKept, Objects, Promises, SinkKept, WireKept, happened_in, names_in}
use Rattle.fs_cli.specs.declared.live.Staying.{Staying, TheVariants.{Record as RecordSo, Keep as KeepSo}}

-- a command that stays: the sessions of a configuration are to be recorded, at an address; or the rules of a file are to be
-- kept at one
pub data LiveForm : Type 0 where
  Record : (config address : List ℕ) → LiveForm
  Keep : (config rules address : List ℕ) → LiveForm

-- the command of a word and two names
abbrev pub live_form : (word config address : List ℕ) → Option LiveForm
live_form word config address =
    if bytes_eq word (codes "record") && (is_name config && is_name address) then Some (Record config address) else None

-- and of a word and three
abbrev pub keep_form : (word config rules address : List ℕ) → Option LiveForm
keep_form word config rules address =
    if bytes_eq word (codes "keep") && (is_name config && (is_name rules && is_name address)) then Some (Keep config rules address)
    else None

-- the command that stays of these words, or none
abbrev pub live_form_of : List (List ℕ) → Option LiveForm
live_form_of (word ∷ config ∷ address ∷ []) = live_form word config address
live_form_of (word ∷ config ∷ rules ∷ address ∷ []) = keep_form word config rules address
live_form_of _ = None

-- what an order says, and its limit
abbrev pub live_shown : Staying → LiveForm
live_shown (RecordSo order) = Record order.config.now order.address.now
live_shown (KeepSo order) = Keep order.config.now order.rules.now order.address.now

abbrev pub limit_of : Staying → ℕ
limit_of (RecordSo order) = order.limit
limit_of (KeepSo order) = order.limit

-- The objects of a run, and a gate, before it and after it.
pub record LiveObjects (F S W C G : Type 0) : Type 1 where
  pub of_run : Objects F S W C
  pub of_gate : gate.Ghosts G
  pub gate_before : G
  pub gate_behind : G

-- in a clause: `beside G.Gate gate.old gate.new (objects ..)`
abbrev pub beside : {F S W C G : Type 0} → gate.Ghosts G → G → G → Objects F S W C → LiveObjects F S W C G
beside of_gate gate gate_now of_run = record { of_run = of_run; of_gate = of_gate; gate_before = gate; gate_behind = gate_now }

-- what the gate told before the run and after it
abbrev pub gate_in : {F S W C G : Type 0} → LiveObjects F S W C G → AtGate
gate_in w = at_gate w.of_gate w.gate_before w.gate_behind

abbrev pub GateKept : {F S W C G : Type 0} → LiveObjects F S W C G → Type 0
GateKept w = w.gate_behind ≡ w.gate_before

-- What a run of a command that stays promises, whichever it is, which ends with these statuses.
pub record StayPromises {F S W C G : Type 0} (IsOfIt : ℕ → Type 0) (limit : ℕ) (w : LiveObjects F S W C G) (config : List ℕ) (answer : ℕ)
    : Type 0 where
  -- It ends with 1, 3, 6 or 7, whatever the outside tells.
  pub possible : IsOfIt answer
  -- It opens CONFIG and no other file.
  pub opens : OpensFront (config_alone config)
      (w.of_run.of_files.opened w.of_run.files_before) (w.of_run.of_files.opened w.of_run.files_behind) answer
  -- It uses neither the wire nor the clock.
  pub wire_unused : WireKept w.of_run × ClockKept w.of_run
  -- At 3 nothing is written, and the gate isn't used, whatever the files tell.
  pub config_writes_nothing : answer ≡ 3 → SinkKept w.of_run × GateKept w
  -- So where CONFIG stops it, whether it is missing, too long or refused.
  pub stopped_unused : AreTold w.of_run → (refusal : Refusal) → config_stage limit (names_in w.of_run) config ≡ Stopped refusal
      → SinkKept w.of_run × GateKept w

-- What a run of `record` promises.
pub record RecordPromises {F S W C G : Type 0} (limit : ℕ) (w : LiveObjects F S W C G) (config : List ℕ) (answer : ℕ) : Type 0 where
  pub stays : StayPromises IsOfRecording limit w config answer
  -- Each status has its cause: what CONFIG calls for, want of memory, a call on the files, the output or the gate that
  -- failed, or the limit.
  pub causes : AreTold w.of_run → EndsRecording limit (names_in w.of_run) config (happened_in w.of_run) (gate_in w) answer
  -- Where CONFIG is accepted, what was written is the tape of what the gate told, and the gate was asked what that calls
  -- for, and no more.
  pub records : AreTold w.of_run → RecordsSo limit (names_in w.of_run) config (happened_in w.of_run) (gate_in w)

-- What a run of `keep` promises.
pub record KeepPromises {F S W C G : Type 0} (limit : ℕ) (w : LiveObjects F S W C G) (config rules address : List ℕ) (answer : ℕ)
    : Type 0 where
  pub stays : StayPromises IsOfKeeping limit w config answer
  -- Each status has its cause: what CONFIG calls for, want of memory, a call on the files, the output or the gate that
  -- failed, RULES that isn't there at first, or the limit.
  pub causes : AreTold w.of_run → EndsKeeping limit (names_in w.of_run) config rules address (happened_in w.of_run) (gate_in w) answer
  -- Where CONFIG is accepted, the gate was asked what its events and the readings of RULES call for, and no more; and the
  -- lines of that were written.
  pub kept : AreTold w.of_run → KeepsSo limit (names_in w.of_run) config rules address (happened_in w.of_run) (gate_in w)

-- What a run of the program beside a gate promises, for inputs and a tape of fewer than `limit` octets each.
pub record LivePromises {F S W C G : Type 0} (limit : ℕ) (w : LiveObjects F S W C G) (words : List (List ℕ)) (answer : ℕ) : Type 0 where
  -- Words that ask for no command that stays: all that `run` promises of them, and the gate isn't used.
  pub others : live_form_of words ≡ None → Promises limit w.of_run words answer × GateKept w
  -- What `record` promises.
  pub recorded : (config address : List ℕ) → live_form_of words ≡ Some (Record config address) → RecordPromises limit w config answer
  -- What `keep` promises.
  pub keeping : (config rules address : List ℕ) → live_form_of words ≡ Some (Keep config rules address)
      → KeepPromises limit w config rules address answer
