-- What `record` answers, what it asks of its gate, and what it writes.
use Rattle.std.specs.Prelude.{ℕ, List, [], ◌∷◌, ◌++◌, Option, Some, None, ◌≡◌, ◌⊎◌, ◌↔◌, ◌<◌, ◌≤◌, ◌+◌, ◌-◌, ◌^◌, flat_map, length, take, max}
use Rattle.fs_base.specs.{Gate.{Turn, came, what_from}, Happened.{Happened, FilesFailed, SinkFailed}, Language.{IsOctets}, Outside.{Rose}}
use Rattle.fs_base.specs.{Sink.{Grew, GrewPart}, declared.config.Config.{Config}, declared.Event.{Event}}
use Rattle.fs_base.specs.declared.Gate as gate
use Rattle.fs_input.specs.{Parts.{AllFrom}, Records.{done}}
use Rattle.fs_tape.specs.{Laws.{Fits, after, item_text, tape_text}, Magic.{magic_of}, Tape.{Timed, stands, tape_of}, declared.magic.Version.TheVariants.{Two}}
use Rattle.fs_recorder.specs.Books.{Agrees}
use Rattle.fs_recorder.specs.Deeds.{AreKnown, Recording, asked_in, items_of, text_at, told_at}
use Rattle.fs_recorder.specs.Steps.{Between, Happening, at_first, behind, recorded, stands_from, step_at, turns_from}
use Rattle.fs_recorder.specs.{Tapes.{Scribed}, Works.{Stands}}
use Rattle.fs_recorder.specs.declared.stop.Stop.{Stop, TheVariants.{Failed, Memory as NoMemory, Limit as TooLong}}
use Rattle.cmd_stages.specs.{Load.{Names, config_stage}, Refusal.{Found, Stage, Stopped, status_of}}
use Rattle.cmd_stages.specs.declared.refusal.Refusal.{Refusal, TheVariants.{Outside, Memory, Limit}}

-- What a gate tells before a call and behind it. Clauses take it as one argument.
pub record AtGate : Type 0 where
  pub turns : Option (List Turn)
  pub turns_now : Option (List Turn)
  pub faults : ℕ
  pub faults_now : ℕ

-- in a clause: `at_gate G.Gate gate.old gate.new`
abbrev pub at_gate : {G : Type 0} → gate.Ghosts G → (before now : G) → AtGate
at_gate of_gate before now = record {
  turns = of_gate.turns before;
  turns_now = of_gate.turns now;
  faults = of_gate.faults before;
  faults_now = of_gate.faults now;
}

-- a call on the files, the sink or the gate failed
abbrev pub SomeFailed : Happened → AtGate → Type 0
SomeFailed call gate = FilesFailed call ⊎ (SinkFailed call ⊎ Rose gate.faults gate.faults_now)

-- The turns at an event that was broken off, if there was one: its own, and so many of those that are due for it.
abbrev pub begun_turns : Config → Between → Option Happening → (count : ℕ) → List Turn
begun_turns config now None count = []
begun_turns config now (Some event) count =
    came event.moment event.time event.what ∷ take count (asked_in (step_at config now event).deeds)

-- the records that are due for it
abbrev pub due_text : Config → Between → Option Happening → List ℕ
due_text config now None = []
due_text config now (Some event) = text_at (max now.moment event.moment) (items_of (step_at config now event).deeds)

-- and so many octets of them
abbrev pub begun_text : Config → Between → Option Happening → (count : ℕ) → List ℕ
begun_text config now None count = []
begun_text config now (Some event) count = take count (due_text config now (Some event))

-- a reader of the tape of these items is given them, and is done, exactly where the tape lies below its limit
abbrev pub TellsAll : Config → (limit : ℕ) → List Timed → Type 0
TellsAll config limit items = (tape_of config limit (tape_text Two items) ≡ (items, done)) ↔ (length (tape_text Two items) < limit)

-- These events came, and perhaps one more, at which it was broken off. The gate told each, and was asked for it what a
-- recorder asks, and no more. The tape has all that was told until the last one.
pub record Records (config : Config) (turns turns' : Option (List Turn)) (before now : Option (List ℕ)) : Type 0 where
  pub earlier : List Happening
  pub last : Option Happening
  pub asked : ℕ
  pub gate : Grew turns turns' (turns_from config at_first earlier ++ begun_turns config (stands_from config at_first earlier) last asked)
  pub told : ℕ
  pub tape : Grew before now (tape_text Two (recorded config earlier) ++ begun_text config (stands_from config at_first earlier) last told)
  -- Whoever reads the tape of what was told until then is given exactly that, where it lies below the reader's limit.
  pub read_back : (limit : ℕ) → IsOctets (tape_text Two (recorded config earlier)) → TellsAll config limit (recorded config earlier)

-- These events were heard, and perhaps one more came: with the records of all of them the tape is as long as the limit, or
-- 2^64 - 1 were heard.
abbrev pub IsFull : (limit : ℕ) → Config → (earlier : List Happening) → (last : Option Happening) → Type 0
IsFull limit config earlier last =
    (limit ≤ length (tape_text Two (recorded config earlier)) + length (due_text config (stands_from config at_first earlier) last))
    ⊎ (length earlier ≡ 2 ^ 64 - 1)

-- So of the events that the gate has told.
pub record Fills (limit : ℕ) (config : Config) (turns turns' : Option (List Turn)) : Type 0 where
  pub earlier : List Happening
  pub last : Option Happening
  pub asked : ℕ
  pub gate : Grew turns turns' (turns_from config at_first earlier ++ begun_turns config (stands_from config at_first earlier) last asked)
  pub full : IsFull limit config earlier last

-- Nothing came yet, and at most a front of the magic was written.
pub record IsUnbegun (turns turns' : Option (List Turn)) (before now : Option (List ℕ)) : Type 0 where
  pub gate : Grew turns turns' []
  pub tape : GrewPart before now (magic_of Two)

-- What a recorder of this configuration did from its start until it ended.
abbrev pub RecordsAll : Config → (turns turns' : Option (List Turn)) → (before now : Option (List ℕ)) → Type 0
RecordsAll config turns turns' before now = IsUnbegun turns turns' before now ⊎ Records config turns turns' before now

-- Where the configuration is accepted the sessions were recorded so.
abbrev pub RecordsSo : (limit : ℕ) (holds : Names) → (config : List ℕ) → Happened → AtGate → Type 0
RecordsSo limit holds config call gate =
    (accepted : Config) → config_stage limit holds config ≡ Found accepted
    → RecordsAll accepted gate.turns gate.turns_now call.before.written call.now.written

-- Why a command at a gate ended: the configuration isn't accepted, memory was wanting, it failed, or the limit was reached.
abbrev pub EndsBy : Stage Config → (failed : Type 0) → (full : Config → Type 0) → ℕ → Type 0
EndsBy stage failed full answer =
    ((refusal : Refusal) × (stage ≡ Stopped refusal) × (answer ≡ status_of refusal))
    ⊎ (answer ≡ 6) ⊎ ((answer ≡ 1) × failed)
    ⊎ ((accepted : Config) × (stage ≡ Found accepted) × (answer ≡ 7) × full accepted)

-- A call on the outside failed, or the records of what came make the tape as long as the limit (or more came than can be
-- counted).
abbrev pub EndsRecording : (limit : ℕ) (holds : Names) → (config : List ℕ) → Happened → AtGate → ℕ → Type 0
EndsRecording limit holds config call gate answer =
    EndsBy (config_stage limit holds config) (SomeFailed call gate) (λ accepted. Fills limit accepted gate.turns gate.turns_now) answer

-- a status that it may end with
abbrev pub IsOfRecording : ℕ → Type 0
IsOfRecording answer = (answer ≡ 1) ⊎ (answer ≡ 3) ⊎ (answer ≡ 6) ⊎ (answer ≡ 7)

-- A recorder stands as events leave one.
pub record StandsAt (config : Config) (now : Between) (recording : Recording) : Type 0 where
  pub config_is : recording.books.desk.config ≡ config
  pub stands : Stands now.station recording
  pub door_is : recording.door ≡ now.door
  pub moment_is : recording.books.scribe.moment ≡ now.moment
  pub known : AreKnown config recording.seats

-- One event more was heard.
pub record Hears (config : Config) (now : Between) (event : Happening) (old new : Recording) (turns turns' : Option (List Turn))
    (before now' : Option (List ℕ)) : Type 0 where
  pub stands : StandsAt config (behind config now event) new
  pub gate : Grew turns turns' (came event.moment event.time event.what ∷ asked_in (step_at config now event).deeds)
  pub tape : Grew before now' (text_at (max now.moment event.moment) (items_of (step_at config now event).deeds))
  pub limit_is : new.books.scribe.limit ≡ old.books.scribe.limit
  pub agrees : (told : List Timed) → Agrees config told old.books
      → Agrees config (told ++ told_at (max now.moment event.moment) (items_of (step_at config now event).deeds)) new.books

-- wherever it stood
abbrev pub HearsOne : (old new : Recording) → (turns turns' : Option (List Turn)) → (before now : Option (List ℕ)) → Type 0
HearsOne old new turns turns' before now =
    (config : Config) (between : Between) → StandsAt config between old
    → (event : Happening) × Hears config between event old new turns turns' before now

-- the turn of an event whose octets stand at the front of a buffer
abbrev pub turn_of : Event → List ℕ → Turn
turn_of event into = came event.moment event.time (what_from event.came into)

-- whatever the gate had told before this turn
abbrev pub BehindTurn : Turn → Option (List Turn) → (Option (List Turn) → Type 0) → Type 0
BehindTurn turn now P = (before : Option (List Turn)) → Grew before now (turn ∷ []) → P before

-- It was broken off at an event, or before one came; and where the limit was named, the records of the event would make the
-- tape as long as it.
pub record Breaks (limited : Type 0) (config : Config) (between : Between) (scribe : Scribed) (turns turns' : Option (List Turn))
    (before now : Option (List ℕ)) : Type 0 where
  pub last : Option Happening
  pub asked : ℕ
  pub gate : Grew turns turns' (begun_turns config between last asked)
  pub told : ℕ
  pub tape : Grew before now (begun_text config between last told)
  pub full : limited → scribe.limit ≤ scribe.written + length (due_text config between last)

abbrev pub BreaksOne : (limited : Type 0) → Recording → (turns turns' : Option (List Turn)) → (before now : Option (List ℕ)) → Type 0
BreaksOne limited old turns turns' before now =
    (config : Config) (between : Between) → StandsAt config between old → Breaks limited config between old.books.scribe turns turns' before now

-- Behind the magic, and before the first event, so many events came, and perhaps one more; and where the limit was named, it
-- was met.
pub record Continues (limited : Type 0) (limit : ℕ) (config : Config) (turns turns' : Option (List Turn)) (before now : Option (List ℕ)) : Type 0 where
  pub earlier : List Happening
  pub last : Option Happening
  pub asked : ℕ
  pub gate : Grew turns turns' (turns_from config at_first earlier ++ begun_turns config (stands_from config at_first earlier) last asked)
  pub fit : AllFrom Fits after (stands config Two 0) (recorded config earlier)
  pub told : ℕ
  pub tape : Grew before now (flat_map (item_text Two) (recorded config earlier) ++ begun_text config (stands_from config at_first earlier) last told)
  pub full : limited → IsFull limit config earlier last

-- the refusal that ends a command where recording ends so
abbrev pub refusal_by : Stop → Refusal
refusal_by Failed = Outside
refusal_by NoMemory = Memory
refusal_by TooLong = Limit
