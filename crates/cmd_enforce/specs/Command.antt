-- What `enforce` is given, and what it answers and writes (the order of work: configuration, tape, capture).
use Rattle.std.specs.Prelude.{ℕ, List, [], ◌≡◌, ◌≤◌, ◌⊎◌, ◌++◌, take, Option, Some}
use Rattle.fs_input.specs.Records.{done}
use Rattle.fs_base.specs.{declared.config.Config.{Config}, Files.{Opened, one_opening}, Happened.{Happened, FilesFailed, SinkFailed, Wrote}, Sink.{Grew}}
use Rattle.fs_tape.specs.{Tape.{Timed}, declared.magic.Version.TheVariants.{Two}}
use Rattle.cmd_enforce.specs.{Capture.{CaptureState, Recorded, capture_of, coming}, Judge.{capture_stage, status_at, output_of}}
use Rattle.cmd_enforce.specs.Moments.{AnswersAt, HoldAt, WroteJudged, packets_of}
use Rattle.cmd_stages.specs.Refusal.{Stage, Found, Stopped, and_then, status_of, EndsEarly}
use Rattle.cmd_stages.specs.{Load.{HoldsConfig, Names, Openings}, Play.{HasVersion, HoldsTape, accepted_stage}}
use Rattle.fs_rules.specs.Table.{Held}

pub record Inputs : Type 0 where
  pub config : Config
  pub items : List Timed
  pub capture : Recorded

abbrev pub inputs : Config → List Timed → Recorded → Inputs
inputs config items capture = record { config = config; items = items; capture = capture }

abbrev pub inputs_stage : ℕ → Names → (config tape capture : List ℕ) → Stage Inputs
inputs_stage limit holds config tape capture =
    and_then (accepted_stage limit holds config tape) (λ accepted.
    and_then (capture_stage limit holds capture) (λ found.
    Found (inputs accepted.0 accepted.1 found)))

-- the status that the inputs call for
abbrev pub status_for : Stage Inputs → ℕ
status_for (Found given) = status_at given.capture.end
status_for (Stopped refusal) = status_of refusal

-- The configuration and the tape are accepted, and the capture was judged under the routes that the tape holds at the
-- packets' moments.
pub record Judges (limit : ℕ) (holds : Names) (config tape capture : List ℕ) (failed : Type 0) (before now : Option (List ℕ)) (answer : ℕ) : Type 0 where
  pub accepted : Config
  pub items : List Timed
  pub found : accepted_stage limit holds config tape ≡ Found (accepted, items)
  pub judged : AnswersAt accepted items (capture_stage limit holds capture) failed before now answer

abbrev pub EnforcesSo : ℕ → Names → (config tape capture : List ℕ) → Type 0 → (before now : Option (List ℕ)) → ℕ → Type 0
EnforcesSo limit holds config tape capture failed before now answer =
    EndsEarly (accepted_stage limit holds config tape) failed before now answer
    ⊎ Judges limit holds config tape capture failed before now answer

abbrev pub Enforces : ℕ → Names → (config tape capture : List ℕ) → Happened → ℕ → Type 0
Enforces limit holds config tape capture call answer =
    EnforcesSo limit holds config tape capture (FilesFailed call ⊎ SinkFailed call) call.before.written call.now.written answer

-- What `enforce` opens: the configuration, the tape, the capture, and after them the tape again, which one of the second
-- version is; at 0 the first three at least.
abbrev pub openings_of : (config tape capture : List ℕ) → Openings
openings_of config tape capture = record {
  files = one_opening 0 config ++ one_opening 1 tape ++ one_opening 2 capture ++ one_opening 1 tape;
  judged = 1;
  due = 3;
}

-- the capture wasn't opened, nor what is opened after it
pub record Unopened (config tape capture : List ℕ) (before now : Option (List Opened)) : Type 0 where
  pub count : ℕ
  pub front : Grew before now (take count (openings_of config tape capture).files)
  pub few : count ≤ 2

-- At want of memory after configuration and tape the lines of all packets that were judged were written, and the others
-- are left in the capture, but for at most one that was read; over a tape of the first version none was judged.
pub record Unfinished (limit : ℕ) (holds : Names) (config tape capture left : List ℕ) (before now : Option (List ℕ)) : Type 0 where
  pub accepted : Config
  pub items : List Timed
  pub found : accepted_stage limit holds config tape ≡ Found (accepted, items)
  pub reader : CaptureState
  pub judged : WroteJudged accepted items (packets_of (capture_stage limit holds capture)) (coming reader left).0 before now
  pub none : (HasVersion limit holds tape Two → ⊥) → judged.came.judged ≡ []

-- What the files of a run showed before it and after it: what was opened, and what is left in the capture's slot.
pub record Shown : Type 0 where
  pub opened_before : Option (List Opened)
  pub opened : Option (List Opened)
  pub left_before : List ℕ
  pub left : List ℕ

-- That; or the capture wasn't opened, nothing was read in its slot, and nothing was written.
abbrev pub Wants : ℕ → Names → (config tape capture : List ℕ) → Shown → Happened → Type 0
Wants limit holds config tape capture shown call =
    (Unopened config tape capture shown.opened_before shown.opened × (shown.left ≡ shown.left_before) × Wrote call [])
    ⊎ Unfinished limit holds config tape capture shown.left call.before.written call.now.written

-- in a clause: `shown F.opened F.left files.old files.new`
abbrev pub shown : {F : Type 0} → (F → Option (List Opened)) → (F → ℕ → List ℕ) → F → F → Shown
shown opened left files files_now = record {
  opened_before = opened files;
  opened = opened files_now;
  left_before = left files 2;
  left = left files_now 2;
}

-- Of the files that these names hold, all of them without a fault and within the limit, the lines of the capture's
-- packets were written: of the ordered walk over the rules that validation admits from the routes that the tape holds at
-- the packet's moment.
pub record Enforced (limit : ℕ) (holds : Names) (config tape capture : List ℕ) (call : Happened) : Type 0 where
  pub accepted : Config
  pub items : List Timed
  pub config_is : HoldsConfig limit holds config accepted
  pub tape_is : HoldsTape limit holds tape accepted items
  pub capture_octets : List ℕ
  pub capture_is : holds capture ≡ Some capture_octets
  pub capture_done : (capture_of limit capture_octets).end ≡ done
  pub held : ℕ → Held
  pub leaves : HoldAt accepted items held (capture_of limit capture_octets).packets
  pub wrote : Wrote call (output_of held (capture_of limit capture_octets))
