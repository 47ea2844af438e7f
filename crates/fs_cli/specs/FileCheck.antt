-- What `check` answers and writes of a file.
use Rattle.std.specs.Prelude.{◌≡◌, ◌≢◌, ◌⊎◌, ℕ, List, [], ◌∷◌, ◌++◌, length, codes, decimal, Option, Some, None}
use Rattle.fs_base.specs.{Happened.{Happened, FilesFailed, SinkFailed, Wrote}, Sink.{Grew}, Files.{one_opening}, declared.config.Config.{Config}}
use Rattle.fs_conf.specs.{Config.{config_of}, Fault.{IsFirstFault, fault_text}, declared.fault.ConfigFault.{ConfigFault, TheVariants.{Memory as NoMemory}}}
use Rattle.cmd_convert.specs.Survey.{dump_verdict}
use Rattle.cmd_enforce.specs.Survey.{capture_verdict}
use Rattle.fs_cli.specs.declared.file_check.CheckedFile.{CheckedFile}
use Rattle.fs_cli.specs.declared.file_check.CheckedFile.TheVariants.{Config as ConfigFile, Rules as RulesFile, Tape as TapeFile}
use Rattle.fs_cli.specs.declared.file_check.CheckedFile.TheVariants.{Capture as CaptureFile, Dump as DumpFile}
use Rattle.fs_cli.specs.{RulesCheck.{JudgesRules}, TapeCheck.{JudgesTape}}
use Rattle.cmd_stages.specs.Load.{Names, Openings, config_alone, config_stage, config_then, fetch}
use Rattle.cmd_stages.specs.Play.{tape_stage}
use Rattle.cmd_stages.specs.Refusal.{Answers, Verdict, verdict_with, Stage, Found, Stopped, status_of}

-- a file that is checked
pub data FileForm : Type 0 where
  OfConfig : (config : List ℕ) → FileForm
  OfRules : (config rules : List ℕ) → FileForm
  OfTape : (config tape : List ℕ) → FileForm
  OfCapture : (capture : List ℕ) → FileForm
  OfDump : (config dump : List ℕ) → FileForm

-- what a parsed word for it says
abbrev pub file_shown : CheckedFile → FileForm
file_shown (ConfigFile config) = OfConfig config.now
file_shown (RulesFile config rules) = OfRules config.now rules.now
file_shown (TapeFile config tape) = OfTape config.now tape.now
file_shown (CaptureFile capture) = OfCapture capture.now
file_shown (DumpFile config dump) = OfDump config.now dump.now

-- how many peers a configuration has; or its first fault
abbrev pub config_line : Config → List ℕ
config_line config = codes "config " ++ (decimal (length config.peers) ++ codes " peers\n")

abbrev pub config_fault_line : ConfigFault → List ℕ
config_fault_line fault = codes "config " ++ (fault_text fault ++ codes "\n")

-- the octets aren't a configuration, and this is their first fault
pub record IsRefusedFor (octets : List ℕ) (fault : ConfigFault) : Type 0 where
  pub some : fault ≢ NoMemory
  pub refused : config_of octets ≡ None
  pub first : IsFirstFault octets fault

-- what is due of the octets of a configuration
abbrev pub JudgesConfig : List ℕ → Verdict → Type 0
JudgesConfig octets verdict =
    ((config : Config) × (config_of octets ≡ Some config) × (verdict ≡ verdict_with 0 (config_line config)))
    ⊎ ((fault : ConfigFault) × IsRefusedFor octets fault × (verdict ≡ verdict_with 9 (config_fault_line fault)))

-- what is due where a stage gives what is judged so; where it ends the run nothing is said
abbrev pub Due : {A : Type 0} → (A → Verdict → Type 0) → Stage A → Verdict → Type 0
Due judges (Found given) verdict = judges given verdict
Due judges (Stopped refusal) verdict = verdict ≡ verdict_with (status_of refusal) []

-- the status and the text that a file calls for
abbrev pub IsDue : ℕ → Names → FileForm → Verdict → Type 0
IsDue limit holds (OfConfig config) verdict = Due JudgesConfig (fetch limit holds config) verdict
IsDue limit holds (OfRules config rules) verdict =
    Due (λ accepted. Due (JudgesRules accepted) (fetch limit holds rules)) (config_stage limit holds config) verdict
IsDue limit holds (OfTape config tape) verdict =
    Due (λ accepted. JudgesTape limit holds tape accepted (tape_stage accepted limit holds tape)) (config_stage limit holds config) verdict
IsDue limit holds (OfCapture capture) verdict = verdict ≡ capture_verdict limit holds capture
IsDue limit holds (OfDump config dump) verdict = verdict ≡ dump_verdict limit holds config dump

-- They were answered and written; or memory was wanting or a call on the outside failed before anything was written.
abbrev pub ChecksFileSo : ℕ → Names → FileForm → Type 0 → (before now : Option (List ℕ)) → ℕ → Type 0
ChecksFileSo limit holds form failed before now answer =
    (((answer ≡ 6) ⊎ ((answer ≡ 1) × failed)) × Grew before now [])
    ⊎ ((verdict : Verdict) × IsDue limit holds form verdict × Answers verdict failed before now answer)

abbrev pub ChecksFile : ℕ → Names → FileForm → Happened → ℕ → Type 0
ChecksFile limit holds form call answer =
    ChecksFileSo limit holds form (FilesFailed call ⊎ SinkFailed call) call.before.written call.now.written answer

-- the status that a file calls for
abbrev pub HasFileStatus : ℕ → Names → FileForm → ℕ → Type 0
HasFileStatus limit holds form answer = (verdict : Verdict) × IsDue limit holds form verdict × (answer ≡ verdict.status)

-- the statuses that may be answered, whatever the outside tells
abbrev pub file_statuses : FileForm → List ℕ
file_statuses (OfConfig config) = 0 ∷ 1 ∷ 6 ∷ 7 ∷ 9 ∷ []
file_statuses (OfRules config rules) = 0 ∷ 1 ∷ 3 ∷ 6 ∷ 7 ∷ 9 ∷ []
file_statuses (OfTape config tape) = 0 ∷ 1 ∷ 3 ∷ 4 ∷ 6 ∷ 7 ∷ []
file_statuses (OfCapture capture) = 0 ∷ 1 ∷ 5 ∷ 6 ∷ 7 ∷ []
file_statuses (OfDump config dump) = 0 ∷ 1 ∷ 3 ∷ 6 ∷ 7 ∷ 10 ∷ []

-- a capture, in slot 2
abbrev pub capture_alone : List ℕ → Openings
capture_alone capture = record { files = one_opening 2 capture; judged = 1; due = 1 }

abbrev pub file_openings : FileForm → Openings
file_openings (OfConfig config) = config_alone config
file_openings (OfRules config rules) = config_then 1 config rules
file_openings (OfTape config tape) = config_then 1 config tape
file_openings (OfCapture capture) = capture_alone capture
file_openings (OfDump config dump) = config_then 1 config dump

-- the status and the text that the file calls for were answered and written
pub record FileChecked (limit : ℕ) (holds : Names) (form : FileForm) (call : Happened) (answer : ℕ) : Type 0 where
  pub verdict : Verdict
  pub due : IsDue limit holds form verdict
  pub status_is : answer ≡ verdict.status
  pub wrote : Wrote call verdict.text
