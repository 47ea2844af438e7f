-- What the command answers and writes that tells, item by item, what changes of the admitted rules along a tape.
use Rattle.std.specs.{Prelude.{◌≡◌, ◌⊎◌, ℕ, List, [], ◌∷◌, ◌++◌, ◌+◌, ◌<◌, length, map, take, Option, Result, MatchResult}, Result.{IsErrAnd}}
use Rattle.fs_base.specs.{Happened.{Happened, FilesFailed, SinkFailed, Wrote}, Sink.{Grew, GrewPart}, declared.config.Config.{Config}}
use Rattle.fs_changes.specs.Tape.{HoldAfter, changes_of}
use Rattle.fs_desk.specs.Laws.{LeaveSame}
use Rattle.fs_input.specs.Records.{End, done, limited, bad}
use Rattle.fs_reports.specs.TapeFault.{tape_fault_line}
use Rattle.fs_rules.specs.Table.{Held}
use Rattle.fs_tape.specs.{Tape.{Timed}, declared.fault.TapeReason.{TapeReason}}
use Rattle.cmd_stages.specs.{Items.{read_stage}, Load.{HoldsConfig, Names, config_stage}, Play.{HoldsTape, played_to, untimed}}
use Rattle.cmd_stages.specs.Refusal.{EndsEarly, HasReason, Stage, Found, Stopped, and_then}
use Rattle.cmd_stages.specs.declared.refusal.Refusal.{Refusal, TheVariants.{Outside, Memory}}

-- the status at the end of a tape
abbrev pub status_at : End TapeReason → ℕ
status_at done = 0
status_at limited = 7
status_at (bad reason place) = 4

-- what is written of the end of a tape: of a fault its name and its place
abbrev pub end_text : End TapeReason → List ℕ
end_text done = []
end_text limited = []
end_text (bad reason place) = tape_fault_line reason place

-- The items that were come to, the rest, and the routes that are held after each of those.
pub record CameTo (config : Config) (items : List Timed) : Type 0 where
  pub held : ℕ → Held
  pub played : List Timed
  pub rest : List Timed
  pub parts : items ≡ played ++ rest
  pub holds : HoldAfter config played held

-- what the items changed that were come to
abbrev pub came_lines : {config : Config} {items : List Timed} → CameTo config items → List ℕ
came_lines came = changes_of came.held came.played

-- these lines, and after those of all items what is written of the end
abbrev pub text_to : (lines : List ℕ) → (rest : List Timed) → End TapeReason → List ℕ
text_to lines [] end = lines ++ end_text end
text_to lines (item ∷ items) end = lines

-- All items were come to, and what they change was written, and then what there is of the end. Or memory was wanting
-- after the lines of some first items. Or a call on the outside failed, and a front of the text stands.
abbrev pub WritesTo : {config : Config} {items : List Timed} → CameTo config items → End TapeReason → Type 0
    → (before now : Option (List ℕ)) → ℕ → Type 0
WritesTo came end failed before now answer =
    ((came.rest ≡ []) × (answer ≡ status_at end) × Grew before now (came_lines came ++ end_text end))
    ⊎ ((answer ≡ 6) × Grew before now (came_lines came))
    ⊎ ((answer ≡ 1) × failed × GrewPart before now (text_to (came_lines came) came.rest end))

-- so of a tape that gives these items and ends so
abbrev pub TellsItems : Config → List Timed × End TapeReason → Type 0 → (before now : Option (List ℕ)) → ℕ → Type 0
TellsItems config all failed before now answer =
    (came : CameTo config all.0) × WritesTo came all.1 failed before now answer

-- Why the items ended: the tape ends so, after all of them; or memory was wanting, after the lines of some first items; or
-- a call on the outside failed, and a front of these lines stands.
abbrev pub StopsTo : {config : Config} {items : List Timed} → CameTo config items → End TapeReason → Type 0
    → (before now : Option (List ℕ)) → Refusal → Type 0
StopsTo {items = items} came end failed before now refusal =
    ((came.rest ≡ []) × (played_to (items, end) ≡ Stopped refusal) × Grew before now (came_lines came))
    ⊎ ((refusal ≡ Memory) × Grew before now (came_lines came))
    ⊎ ((refusal ≡ Outside) × failed × GrewPart before now (came_lines came))

-- What the items change was written, of all of them; or they ended before.
abbrev pub FollowsItems : {T : Type 0} → Config → List Timed × End TapeReason → Type 0 → (before now : Option (List ℕ))
    → Result T Refusal → Type 0
FollowsItems config all failed before now result =
    (came : CameTo config all.0)
    × MatchResult result
    (λ _. (came.rest ≡ []) × (all.1 ≡ done) × Grew before now (came_lines came))
    (StopsTo came all.1 failed before now)

-- So of a tape that is there; or it ended before the first item was come to.
abbrev pub FollowsTape : {T : Type 0} → Config → Stage (List Timed × End TapeReason) → Type 0 → (before now : Option (List ℕ))
    → Result T Refusal → Type 0
FollowsTape config stage failed before now result =
    IsErrAnd result (λ refusal. HasReason stage failed refusal × Grew before now [])
    ⊎ ((all : List Timed × End TapeReason) × (stage ≡ Found all) × FollowsItems config all failed before now result)

-- the configuration is accepted, and the tape is there
abbrev pub opened_stage : ℕ → Names → (config tape : List ℕ) → Stage (Config × (List Timed × End TapeReason))
opened_stage limit holds config tape =
    and_then (config_stage limit holds config) (λ accepted.
    and_then (read_stage accepted limit holds tape) (λ all.
    Found (accepted, all)))

-- It ended before the first item was come to; or what the items change was told.
abbrev pub TellsSo : ℕ → Names → (config tape : List ℕ) → Type 0 → (before now : Option (List ℕ)) → ℕ → Type 0
TellsSo limit holds config tape failed before now answer =
    EndsEarly (opened_stage limit holds config tape) failed before now answer
    ⊎ ((accepted : Config) × (all : List Timed × End TapeReason)
    × (opened_stage limit holds config tape ≡ Found (accepted, all))
    × TellsItems accepted all failed before now answer)

abbrev pub TellsChanges : ℕ → Names → (config tape : List ℕ) → Happened → ℕ → Type 0
TellsChanges limit holds config tape call answer =
    TellsSo limit holds config tape (FilesFailed call ⊎ SinkFailed call) call.before.written call.now.written answer

-- Of the files that these names hold, both without a fault and within the limit, it was written what each item of the
-- tape changes of the admitted rules, and nothing else.
pub record Changed (limit : ℕ) (holds : Names) (config tape : List ℕ) (call : Happened) : Type 0 where
  pub accepted : Config
  pub items : List Timed
  pub config_is : HoldsConfig limit holds config accepted
  pub tape_is : HoldsTape limit holds tape accepted items
  pub held : ℕ → Held
  pub holds_after : HoldAfter accepted items held
  pub wrote : Wrote call (changes_of held items)

-- The items of both tapes have the same moments, one after the other, and leave the same routes after each.
pub record LeaveSameAfter (config : Config) (items other : List Timed) : Type 0 where
  pub moments : map (λ timed. timed.moment) items ≡ map (λ timed. timed.moment) other
  pub routes : (k : ℕ) → k < length items → LeaveSame config (untimed (take (k + 1) items)) (untimed (take (k + 1) other))
