-- What the commands that survey a tape answer and write.
use Rattle.std.specs.{Prelude.{◌≡◌, ◌≢◌, ◌⊎◌, ℕ, List, [], Option, Result}, Result.{IsErrAnd}}
use Rattle.fs_base.specs.{Happened.{Happened, FilesFailed, SinkFailed, Wrote}, Sink.{Grew}, declared.config.Config.{Config}}
use Rattle.fs_cli.specs.declared.survey.Survey.{Survey, TheVariants.{Rules, Shadow, Words}}
use Rattle.fs_reports.specs.{Listing.{listing}, TapeFault.{tape_fault_line}, Worded.{worded}}
use Rattle.fs_rules.specs.Table.{Held}
use Rattle.fs_shadow.specs.Text.{shadow_listing}
use Rattle.fs_tape.specs.Tape.{Item, Timed}
use Rattle.cmd_stages.specs.{Load.{HoldsConfig, Names}, Play.{HoldsTape, accepted_stage, untimed}}
use Rattle.cmd_stages.specs.Refusal.{Answers, verdict_with, Stage, Found, Stopped, status_of}
use Rattle.cmd_stages.specs.{Writing.{Fails}, declared.refusal.Refusal.{Refusal, TheVariants.{Tape}}}
use Rattle.fs_desk.specs.Leaves.{Leaves}

-- a survey: its text, of the configuration, the items of a tape, and the routes that they leave held
abbrev pub Text : Type 0
Text = Config → List Item → Held → List ℕ

abbrev pub text_for : Survey → Text
text_for Rules = listing
text_for Words = worded
text_for Shadow = shadow_listing

-- what is written at a refusal: of a tape's fault its name and its place
abbrev pub stopped_text : Refusal → List ℕ
stopped_text (Tape reason place) = tape_fault_line reason place
stopped_text refusal = []

-- The configuration and the tape are accepted, the tape leaves these routes held, and they were told.
pub record Shows (survey : Text) (limit : ℕ) (holds : Names) (config tape : List ℕ) (failed : Type 0) (before now : Option (List ℕ)) (answer : ℕ) : Type 0 where
  pub accepted : Config
  pub items : List Timed
  pub held : Held
  pub found : accepted_stage limit holds config tape ≡ Found (accepted, items)
  pub leaves : Leaves accepted (untimed items) held
  pub answers : Answers (verdict_with 0 (survey accepted (untimed items) held)) failed before now answer

-- Or a stage ended the run; or memory was wanting or a call on the outside failed before anything was written.
abbrev pub ListsSo : Text → ℕ → Names → (config tape : List ℕ) → Type 0 → (before now : Option (List ℕ)) → ℕ → Type 0
ListsSo survey limit holds config tape failed before now answer =
    ((refusal : Refusal)
    × (accepted_stage limit holds config tape ≡ Stopped refusal)
    × Answers (verdict_with (status_of refusal) (stopped_text refusal)) failed before now answer)
    ⊎ (((answer ≡ 6) ⊎ ((answer ≡ 1) × failed)) × Grew before now [])
    ⊎ Shows survey limit holds config tape failed before now answer

abbrev pub Lists : Text → ℕ → Names → (config tape : List ℕ) → Happened → ℕ → Type 0
Lists survey limit holds config tape call answer =
    ListsSo survey limit holds config tape (FilesFailed call ⊎ SinkFailed call) call.before.written call.now.written answer

-- a refusal is handed on after what is said of it; or that couldn't be written
abbrev pub SaysOf : {T : Type 0} → Refusal → Type 0 → (before now : Option (List ℕ)) → Result T Refusal → Type 0
SaysOf refusal failed before now result =
    IsErrAnd result (λ other. ((other ≡ refusal) × Grew before now (stopped_text refusal)) ⊎ Fails (stopped_text refusal) failed before now other)

-- the status that configuration and tape call for
abbrev pub listed_status : {A : Type 0} → Stage A → ℕ
listed_status (Found accepted) = 0
listed_status (Stopped refusal) = status_of refusal

-- a status of the configuration or of the tape: of no other input, and of no session
abbrev pub IsOfSurvey : ℕ → Type 0
IsOfSurvey status = (status ≢ 5) × (status ≢ 8) × (status ≢ 10)

-- Of the files that these names hold, both without a fault and within the limit, the survey was written: of the items of
-- the tape, and of the routes that they leave held.
pub record Surveyed (survey : Text) (limit : ℕ) (holds : Names) (config tape : List ℕ) (call : Happened) : Type 0 where
  pub accepted : Config
  pub items : List Timed
  pub config_is : HoldsConfig limit holds config accepted
  pub tape_is : HoldsTape limit holds tape accepted items
  pub held : Held
  pub leaves : Leaves accepted (untimed items) held
  pub wrote : Wrote call (survey accepted (untimed items) held)
