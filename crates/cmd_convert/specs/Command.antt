-- What `convert` is given, and what it answers and writes (the order of work: configuration, dump).
use Rattle.std.specs.Prelude.{ℕ, List, [], ◌≡◌, ◌≢◌, ◌⊎◌, Option, Some, None, Result, MatchResult}
use Rattle.fs_base.specs.{Happened.{Happened, FilesFailed, SinkFailed, Wrote}, Language.{IsOctets}, Parts.{with_part}, declared.config.Config.{Config}}
use Rattle.fs_input.specs.Records.{End, done, limited, bad}
use Rattle.fs_line.specs.Output.{Goes, Partly}
use Rattle.fs_mrt.specs.{Dump.{spoken_from}, Record.{Spoken}, declared.{fault.DumpReason.{DumpReason}, heard.Heard.{Heard}}}
use Rattle.cmd_stages.specs.Load.{HoldsConfig, Names, config_stage}
use Rattle.cmd_stages.specs.Refusal.{Answers, EndsEarly, HasReason, Stage, Found, Stopped, Verdict, or_stop, status_of, verdict_with}
use Rattle.cmd_stages.specs.declared.refusal.Refusal.{Refusal, TheVariants.{Outside}}
use Rattle.fs_tape.specs.{Laws.{tape_text}, Tape.{Timed}, declared.magic.Version.TheVariants.{Two}}
use Rattle.cmd_convert.specs.{Laws.{GivesBack}, Lives.{lives_of}, Making.{MakingState, items_from, remade}}

-- the status at the end of a dump
abbrev pub status_at : End DumpReason → ℕ
status_at done = 0
status_at limited = 7
status_at (bad reason place) = 10

-- the file of the dump is there
abbrev pub dump_stage : Names → List ℕ → Stage (List ℕ)
dump_stage holds name = or_stop Outside (holds name)

-- of a dump of this content: the status at its end, and after the records before it the tape that they make
abbrev pub verdict_of : Config → ℕ → Stage (List ℕ) → Verdict
verdict_of config limit (Found content) =
    verdict_with (status_at (remade config limit content).1) (tape_text Two (remade config limit content).0)
verdict_of config limit (Stopped refusal) = verdict_with (status_of refusal) []

-- The configuration is accepted, and the dump was converted.
pub record Makes (limit : ℕ) (holds : Names) (config dump : List ℕ) (failed : Type 0) (before now : Option (List ℕ)) (answer : ℕ) : Type 0 where
  pub accepted : Config
  pub found : config_stage limit holds config ≡ Found accepted
  pub answers : Answers (verdict_of accepted limit (dump_stage holds dump)) failed before now answer

abbrev pub ConvertsSo : ℕ → Names → (config dump : List ℕ) → Type 0 → (before now : Option (List ℕ)) → ℕ → Type 0
ConvertsSo limit holds config dump failed before now answer =
    EndsEarly (config_stage limit holds config) failed before now answer
    ⊎ Makes limit holds config dump failed before now answer

abbrev pub Converts : ℕ → Names → (config dump : List ℕ) → Happened → ℕ → Type 0
Converts limit holds config dump call answer =
    ConvertsSo limit holds config dump (FilesFailed call ⊎ SinkFailed call) call.before.written call.now.written answer

-- the status that configuration and dump call for
abbrev pub status_for : ℕ → Stage (List ℕ) → Stage Config → ℕ
status_for limit dump (Found accepted) = (verdict_of accepted limit dump).status
status_for limit dump (Stopped refusal) = status_of refusal

abbrev pub convert_status : ℕ → Names → (config dump : List ℕ) → ℕ
convert_status limit holds config dump = status_for limit (dump_stage holds dump) (config_stage limit holds config)

-- Of the files that these names hold, both without a fault and within the limit, the tape of the second version was
-- written whose items the dump's records make. Whoever reads it for this configuration is given exactly these items,
-- where it lies below the reader's limit.
pub record Converted (limit : ℕ) (holds : Names) (config dump : List ℕ) (call : Happened) : Type 0 where
  pub accepted : Config
  pub config_is : HoldsConfig limit holds config accepted
  pub dump_octets : List ℕ
  pub dump_is : holds dump ≡ Some dump_octets
  pub items : List Timed
  pub items_are : remade accepted limit dump_octets ≡ (items, done)
  pub wrote : Wrote call (tape_text Two items)
  pub read_back : (tape_limit : ℕ) → IsOctets dump_octets → GivesBack accepted tape_limit items

-- a status of the configuration or of the dump: of no other input, and of no session
abbrev pub IsOfDump : ℕ → Type 0
IsOfDump status = (status ≢ 4) × (status ≢ 5) × (status ≢ 8)

-- a status at a record: of the dump, and memory wasn't wanting
abbrev pub IsAtRecord : ℕ → Type 0
IsAtRecord status = IsOfDump status × (status ≢ 3) × (status ≢ 6)

-- a dump was opened of which this is left; or it couldn't be
abbrev pub IsOpened : {T : Type 0} → Names → (name left : List ℕ) → Type 0 → Result T Refusal → Type 0
IsOpened holds name left failed result =
    MatchResult result (λ _. holds name ≡ Some left) (HasReason (dump_stage holds name) failed)

-- a record was heard, and these are those to come behind it; or the dump is done
abbrev pub Yields : List Spoken × End DumpReason → List Spoken × End DumpReason → List ℕ → Option Heard → Type 0
Yields before now into (Some heard) = before ≡ with_part (spoken_from heard into) now
Yields before now into None = before ≡ ([], done)

-- no record is to come, for such a fault; or a call on the outside failed
abbrev pub Ceases : List Spoken × End DumpReason → Type 0 → Refusal → Type 0
Ceases before failed refusal = ((before.0 ≡ []) × (status_at before.1 ≡ status_of refusal)) ⊎ ((refusal ≡ Outside) × failed)

-- why converting ends early: the dump ends so, after all that its records make, or a call on the outside failed
abbrev pub Breaks : End DumpReason → (before now : Option (List ℕ)) (pending pending_now text : List ℕ) → Type 0 → Refusal → Type 0
Breaks end before now pending pending_now text failed refusal =
    ((status_at end ≡ status_of refusal) × Goes before now pending pending_now text)
    ⊎ ((refusal ≡ Outside) × (failed × Partly before now pending pending_now text))

-- the tape that these records make, where a tape that is written stands so
abbrev pub text_from : MakingState → List Spoken → List ℕ
text_from making heard = tape_text Two (items_from making.config (lives_of making.lives) heard)

-- The records to come were all converted, up to the dump's end; or converting broke off.
abbrev pub MakesAll : {T : Type 0} → (old : MakingState) → (coming : List Spoken × End DumpReason) → Happened → (pending : List ℕ) → Result T Refusal → Type 0
MakesAll old coming call pending result =
    MatchResult result
    (λ _. (coming.1 ≡ done) × Goes call.before.written call.now.written old.pending pending (text_from old coming.0))
    (Breaks coming.1 call.before.written call.now.written old.pending pending (text_from old coming.0)
    (FilesFailed call ⊎ SinkFailed call))
