-- What a run of the program promises, and what it answers and writes.
use Rattle.std.specs.Prelude.{◌≡◌, ◌≢◌, ◌⊎◌, ℕ, List, [], ◌∷◌, Bool, true, false, Option, if◌then◌else◌, ◌↔◌, IsTrue, IfSome, Some, None}
use Rattle.fs_base.specs.{Happened.{Happened, SinkFailed, happened, with_wire, FilesFailed, FilesStood, SinkStood, WireStood, Wrote}, Sink.{Grew}}
use Rattle.fs_reports.specs.{Report.{Reports}, Text.{ReportsText}}
use Rattle.cmd_stages.specs.{Refusal.{Verdict, Answers, Stopped}, declared.refusal.Refusal.{Refusal}}
use Rattle.cmd_stages.specs.Load.{Names, sending_stage, Openings, OpensFront, config_alone, config_then}
use Rattle.cmd_stages.specs.Play.{HasVersion, accepted_stage}
use Rattle.cmd_convert.specs.Command.{Converts as ConvertsDump, Converted, convert_status}
use Rattle.cmd_enforce.specs.Command.{Enforces, Enforced, Unopened, Wants, inputs_stage, Shown, shown, status_for, openings_of}
use Rattle.cmd_gen.specs.Command.{Generates, Generated}
use Rattle.cmd_wire.specs.{Announcing.{Announced, Announces}, Conversation.{Conversation, conversation}, Listening.{Heard, ListensTo, hearing_stage}}
use Rattle.cmd_wire.specs.{Pairing.{Carries, Joins}, Concluded.{AnyFailed, HasStatusBy}, Promised.{AnnouncePromises, ListenPromises, PairPromises}}
use Rattle.fs_cli.specs.Changes.{Changed, TellsChanges}
use Rattle.fs_cli.specs.Command.{Form, Enforce, Surveys, Changes, Converts, Check, CheckFile, Gen, form_of, Announce, Listen, Pair}
use Rattle.fs_cli.specs.FileCheck.{ChecksFile, FileChecked, FileForm, HasFileStatus, file_openings, file_statuses}
use Rattle.fs_cli.specs.Survey.{Lists, Surveyed, listed_status, text_for}
use Rattle.fs_cli.specs.declared.{command.Subject.{Subject, TheVariants.{Nlri, Text}}, survey.Survey.{Survey}}
use Rattle.fs_tape.specs.declared.magic.Version.TheVariants.{Two}
use Rattle.fs_base.specs.declared.Files as files
use Rattle.fs_base.specs.declared.Sink as sink
use Rattle.fs_base.specs.declared.Wire as wire
use Rattle.fs_base.specs.declared.Clock as clock

-- what `check` answers, and writes
abbrev pub checked : Bool → ℕ
checked accepted = if accepted then 0 else 9

abbrev pub report_verdict : Bool → List ℕ → Verdict
report_verdict accepted text = record { status = checked accepted; text = text }

-- what is said of the word, as a field of frames or as the text of a rule and its actions
abbrev pub ReportsOn : Subject → (word text : List ℕ) → Bool → Type 0
ReportsOn (Nlri family) word text accepted = Reports family word text accepted
ReportsOn Text word text accepted = ReportsText word text accepted

-- what is said of the word was written
pub record Says (subject : Subject) (word : List ℕ) (failed : Type 0) (before now : Option (List ℕ)) (answer : ℕ) : Type 0 where
  pub accepted : Bool
  pub text : List ℕ
  pub reports : ReportsOn subject word text accepted
  pub answers : Answers (report_verdict accepted text) failed before now answer

-- or memory was wanting, and nothing was
abbrev pub ChecksSo : Subject → (word : List ℕ) → Type 0 → (before now : Option (List ℕ)) → ℕ → Type 0
ChecksSo subject word failed before now answer =
    ((answer ≡ 6) × Grew before now []) ⊎ Says subject word failed before now answer

abbrev pub Checks : Subject → (word : List ℕ) → Happened → ℕ → Type 0
Checks subject word call answer = ChecksSo subject word (SinkFailed call) call.before.written call.now.written answer

-- A command, over files that hold this, where files whose contents are told tell them.
abbrev pub Does : (tells : Bool) (limit : ℕ) (holds : Names) → Form → Happened → Conversation → ℕ → Type 0
Does tells limit holds (Enforce config tape capture) call talk answer = IsTrue tells → Enforces limit holds config tape capture call answer
Does tells limit holds (Surveys survey config tape) call talk answer = IsTrue tells → Lists (text_for survey) limit holds config tape call answer
Does tells limit holds (Changes config tape) call talk answer = IsTrue tells → TellsChanges limit holds config tape call answer
Does tells limit holds (Converts config dump) call talk answer = IsTrue tells → ConvertsDump limit holds config dump call answer
Does tells limit holds (Check subject word) call talk answer = Checks subject word call answer
Does tells limit holds (CheckFile file) call talk answer = IsTrue tells → ChecksFile limit holds file call answer
Does tells limit holds (Gen count) call talk answer = Generates count call answer
Does tells limit holds (Announce config rules address) call talk answer = IsTrue tells → Announces limit holds config rules call talk answer
Does tells limit holds (Listen config address) call talk answer = IsTrue tells → ListensTo limit holds config call talk answer
Does tells limit holds (Pair config rules) call talk answer = IsTrue tells → Joins limit holds config rules call talk answer

-- it is one of these
abbrev pub IsOneOf : List ℕ → ℕ → Type 0
IsOneOf [] answer = ⊥
IsOneOf (status ∷ statuses) answer = (answer ≡ status) ⊎ IsOneOf statuses answer

-- the statuses that a command may end with, whatever the outside tells
abbrev pub statuses : Form → List ℕ
statuses (Enforce config tape capture) = 0 ∷ 1 ∷ 3 ∷ 4 ∷ 5 ∷ 6 ∷ 7 ∷ []
statuses (Surveys survey config tape) = 0 ∷ 1 ∷ 3 ∷ 4 ∷ 6 ∷ 7 ∷ []
statuses (Changes config tape) = 0 ∷ 1 ∷ 3 ∷ 4 ∷ 6 ∷ 7 ∷ []
statuses (Converts config dump) = 0 ∷ 1 ∷ 3 ∷ 6 ∷ 7 ∷ 10 ∷ []
statuses (Check subject word) = 0 ∷ 1 ∷ 6 ∷ 9 ∷ []
statuses (CheckFile file) = file_statuses file
statuses (Gen count) = 0 ∷ 1 ∷ 6 ∷ []
statuses form = 0 ∷ 1 ∷ 3 ∷ 6 ∷ 7 ∷ 8 ∷ []

-- words that ask for no command answer 2 and write nothing
abbrev pub Runs : (tells : Bool) (limit : ℕ) (holds : Names) → Option Form → Happened → Conversation → ℕ → Type 0
Runs tells limit holds None call talk answer = (answer ≡ 2) × Wrote call []
Runs tells limit holds (Some form) call talk answer = IsOneOf (statuses form) answer × Does tells limit holds form call talk answer

-- The status that the files and the words call for, and over a wire what an end gave, in the order of work.
abbrev pub HasStatus : (limit : ℕ) (holds : Names) → Form → Conversation → ℕ → Type 0
HasStatus limit holds (Enforce config tape capture) talk answer = answer ≡ status_for (inputs_stage limit holds config tape capture)
HasStatus limit holds (Surveys survey config tape) talk answer = answer ≡ listed_status (accepted_stage limit holds config tape)
HasStatus limit holds (Changes config tape) talk answer = answer ≡ listed_status (accepted_stage limit holds config tape)
HasStatus limit holds (Converts config dump) talk answer = answer ≡ convert_status limit holds config dump
HasStatus limit holds (Check subject word) talk answer =
    (accepted : Bool) × (text : List ℕ) × ReportsOn subject word text accepted × (answer ≡ (report_verdict accepted text).status)
HasStatus limit holds (CheckFile file) talk answer = HasFileStatus limit holds file answer
HasStatus limit holds (Gen count) talk answer = answer ≡ 0
HasStatus limit holds (Announce config rules address) talk answer =
    HasStatusBy (Announced limit talk) (sending_stage limit holds config rules) answer
HasStatus limit holds (Listen config address) talk answer = HasStatusBy (Heard limit talk) (hearing_stage limit holds config) answer
HasStatus limit holds (Pair config rules) talk answer = HasStatusBy (Carries limit talk) (sending_stage limit holds config rules) answer

-- the files that a command opens, in order
abbrev pub openings : Form → Openings
openings (Enforce config tape capture) = openings_of config tape capture
openings (Surveys survey config tape) = config_then 1 config tape
openings (Changes config tape) = config_then 1 config tape
openings (Converts config dump) = config_then 1 config dump
openings (CheckFile file) = file_openings file
openings (Announce config rules address) = config_then 2 config rules
openings (Listen config address) = config_alone config
openings (Pair config rules) = config_then 2 config rules
openings form = record { files = []; judged = 1; due = 0 }

-- whether a command speaks over the wire
abbrev pub speaks : Form → Bool
speaks (Announce config rules address) = true
speaks (Listen config address) = true
speaks (Pair config rules) = true
speaks form = false

-- what the files are accepted as before a command that speaks over the wire opens it stops it so
abbrev pub StopsSo : (limit : ℕ) (holds : Names) → Form → Refusal → Type 0
StopsSo limit holds (Announce config rules address) refusal = sending_stage limit holds config rules ≡ Stopped refusal
StopsSo limit holds (Listen config address) refusal = hearing_stage limit holds config ≡ Stopped refusal
StopsSo limit holds (Pair config rules) refusal = sending_stage limit holds config rules ≡ Stopped refusal
StopsSo limit holds form refusal = ⊥

-- whether a command writes while it plays a tape
abbrev pub tells_changes : Form → Bool
tells_changes (Changes config tape) = true
tells_changes form = false

-- a call on the files or on the sink failed, or on the wire of a command that speaks over it
abbrev pub FailedOver : (speaks : Bool) → Happened → Type 0
FailedOver true call = AnyFailed call
FailedOver false call = FilesFailed call ⊎ SinkFailed call

abbrev pub OutsideFailed : Form → Happened → Type 0
OutsideFailed form call = FailedOver (speaks form) call

-- the status is the one that is called for, or memory was wanting
abbrev pub Completes : (limit : ℕ) (holds : Names) → Option Form → Conversation → ℕ → Type 0
Completes limit holds form talk answer = IfSome form (λ asked. HasStatus limit holds asked talk answer ⊎ (answer ≡ 6))

-- or a call on the outside failed
abbrev pub HasCauses : (limit : ℕ) (holds : Names) → Option Form → Happened → Conversation → ℕ → Type 0
HasCauses limit holds form call talk answer =
    IfSome form (λ asked.
    HasStatus limit holds asked talk answer ⊎ (answer ≡ 6) ⊎ ((answer ≡ 1) × OutsideFailed asked call))

-- no call of the wire failed, where the command speaks over it
abbrev pub WireServed : Option Form → Happened → Type 0
WireServed form call = IfSome form (λ asked. IsTrue (speaks asked) → WireStood call)

-- The command isn't `enforce` over a tape of the second version. Of `enforce` only files that tell can say so.
abbrev pub HasNoMoments : (tells : Bool) (limit : ℕ) (holds : Names) → Form → Type 0
HasNoMoments tells limit holds form =
    (config tape capture : List ℕ) → form ≡ Enforce config tape capture
    → IsTrue tells × (HasVersion limit holds tape Two → ⊥)

-- The objects of a run: the files, the sink, the wire and the clock, before it and after it.
pub record Objects (F S W C : Type 0) : Type 1 where
  pub of_files : files.Ghosts F
  pub of_sink : sink.Ghosts S
  pub of_wire : wire.Ghosts W
  pub of_clock : clock.Ghosts C
  pub files_before : F
  pub files_behind : F
  pub sink_before : S
  pub sink_behind : S
  pub wire_before : W
  pub wire_behind : W
  pub clock_before : C
  pub clock_behind : C

-- in a clause: `objects F.Files S.Sink W.Wire C.Clock files.old files.new sink.old sink.new wire.old wire.new clock.old clock.new`
abbrev pub objects : {F S W C : Type 0} → files.Ghosts F → sink.Ghosts S → wire.Ghosts W → clock.Ghosts C → F → F → S → S → W → W → C → C → Objects F S W C
objects of_files of_sink of_wire of_clock files files_now sink sink_now wire wire_now clock clock_now = record {
  of_files = of_files;
  of_sink = of_sink;
  of_wire = of_wire;
  of_clock = of_clock;
  files_before = files;
  files_behind = files_now;
  sink_before = sink;
  sink_behind = sink_now;
  wire_before = wire;
  wire_behind = wire_now;
  clock_before = clock;
  clock_behind = clock_now;
}

-- the files tell what they hold
abbrev pub AreTold : {F S W C : Type 0} → Objects F S W C → Type 0
AreTold w = IsTrue w.of_files.tells

-- what each name held before the run
abbrev pub names_in : {F S W C : Type 0} → Objects F S W C → Names
names_in w = w.of_files.holds w.files_before

abbrev pub happened_in : {F S W C : Type 0} → Objects F S W C → Happened
happened_in w =
    with_wire w.of_wire w.wire_before w.wire_behind
    (happened w.of_files w.of_sink w.files_before w.files_behind w.sink_before w.sink_behind)

-- what wire and clock told before the run and after it
abbrev pub talk_in : {F S W C : Type 0} → Objects F S W C → Conversation
talk_in w = conversation w.of_wire w.of_clock w.wire_before w.wire_behind w.clock_before w.clock_behind

-- what the files showed of the openings and of the capture
abbrev pub shown_in : {F S W C : Type 0} → Objects F S W C → Shown
shown_in w = shown w.of_files.opened w.of_files.left w.files_before w.files_behind

abbrev pub FilesKept : {F S W C : Type 0} → Objects F S W C → Type 0
FilesKept w = w.files_behind ≡ w.files_before

abbrev pub SinkKept : {F S W C : Type 0} → Objects F S W C → Type 0
SinkKept w = w.sink_behind ≡ w.sink_before

abbrev pub WireKept : {F S W C : Type 0} → Objects F S W C → Type 0
WireKept w = w.wire_behind ≡ w.wire_before

abbrev pub ClockKept : {F S W C : Type 0} → Objects F S W C → Type 0
ClockKept w = w.clock_behind ≡ w.clock_before

-- What a run of the program promises, for inputs of fewer than `limit` octets each.
pub record Promises {F S W C : Type 0} (limit : ℕ) (w : Objects F S W C) (words : List (List ℕ)) (answer : ℕ) : Type 0 where
  -- All that is answered and written, exactly: the defined status and the whole text; or want of memory, or a call on
  -- the outside that failed, and a front of the text.
  pub runs : Runs w.of_files.tells limit (names_in w) (form_of words) (happened_in w) (talk_in w) answer
  -- The status is 2 exactly where the words ask for no command.
  pub no_command : (answer ≡ 2) ↔ (form_of words ≡ None)
  -- A command ends with one of its statuses, whatever the outside tells.
  pub possible : (form : Form) → form_of words ≡ Some form → IsOneOf (statuses form) answer
  -- Where the words ask for no command no file is opened, nothing is written, and neither the wire nor the clock is used.
  pub nothing_done : form_of words ≡ None → FilesKept w × SinkKept w × WireKept w × ClockKept w
  -- `check` of a word opens no file.
  pub check_opens_nothing : (subject : Subject) (word : List ℕ)
      → form_of words ≡ Some (Check subject word) → FilesKept w
  -- `gen` opens no file.
  pub gen_opens_nothing : (count : ℕ) → form_of words ≡ Some (Gen count) → FilesKept w
  -- What a command opened is a front of its files, in their order, each in its slot: the first at least, at 0 all
  -- (`enforce` the first three at least), at 3 of `enforce`, `changes`, `convert` and a survey the configuration alone.
  pub opens : (form : Form) → form_of words ≡ Some form
      → OpensFront (openings form) (w.of_files.opened w.files_before) (w.of_files.opened w.files_behind) answer
  -- Only `announce`, `listen` and `pair` use the wire, and the clock.
  pub wire_unused : (form : Form) → form_of words ≡ Some form → speaks form ≡ false → WireKept w × ClockKept w
  -- At 3 nothing is written, and neither the wire nor the clock is used, whatever the files tell.
  pub config_writes_nothing : answer ≡ 3 → SinkKept w × WireKept w × ClockKept w
  -- Where a file stops `announce`, `listen` or `pair`, whether it is missing, too long or refused, nothing is dialled,
  -- listened for or said, and the clock isn't asked.
  pub stopped_unspoken : AreTold w → (form : Form) → form_of words ≡ Some form → (refusal : Refusal)
      → StopsSo limit (names_in w) form refusal → WireKept w × ClockKept w
  -- At 7 a survey writes nothing, whatever the files tell.
  pub limit_writes_nothing : answer ≡ 7 → (survey : Survey) (config tape : List ℕ)
      → form_of words ≡ Some (Surveys survey config tape) → SinkKept w
  -- At 4 `enforce` writes nothing, where the files tell.
  pub tape_writes_nothing : AreTold w → answer ≡ 4 → (config tape capture : List ℕ)
      → form_of words ≡ Some (Enforce config tape capture) → SinkKept w
  -- At 4 `enforce` hasn't opened the capture, where the files tell.
  pub tape_opens_nothing : AreTold w → answer ≡ 4 → (config tape capture : List ℕ)
      → form_of words ≡ Some (Enforce config tape capture)
      → Unopened config tape capture (w.of_files.opened w.files_before) (w.of_files.opened w.files_behind)
  -- At 6 nothing is written, but by `changes`, and by `enforce` over a tape of the second version: no packet ends another
  -- run for want of memory.
  pub memory_writes_nothing : answer ≡ 6 → (form : Form) → form_of words ≡ Some form → tells_changes form ≡ false
      → HasNoMoments w.of_files.tells limit (names_in w) form → SinkKept w
  -- At 6 `enforce` has written the lines of all packets that it judged. The others are left in the capture, but for at
  -- most one that was read; over a tape of the first version these are all.
  pub memory_keeps_judged : AreTold w → answer ≡ 6 → (config tape capture : List ℕ)
      → form_of words ≡ Some (Enforce config tape capture)
      → Wants limit (names_in w) config tape capture (shown_in w) (happened_in w)
  -- Each status has its cause: what the words, the files and the other end call for, want of memory, or a failed call.
  pub causes : AreTold w → HasCauses limit (names_in w) (form_of words) (happened_in w) (talk_in w) answer
  -- Where no call failed, only want of memory prevents the status that words and files call for.
  pub complete : AreTold w → FilesStood (happened_in w) → SinkStood (happened_in w)
      → WireServed (form_of words) (happened_in w)
      → Completes limit (names_in w) (form_of words) (talk_in w) answer
  -- At 0 `enforce` wrote, packet by packet, the actions that the ordered walk gives on the rules that validation admits
  -- from the routes that the tape holds at the packet's moment.
  pub headline : AreTold w → answer ≡ 0 → (config tape capture : List ℕ)
      → form_of words ≡ Some (Enforce config tape capture)
      → Enforced limit (names_in w) config tape capture (happened_in w)
  -- At 0 a survey was written of what the tape leaves: by `rules`, the peers' states and the rules; by
  -- `list`, the admitted rules in words.
  pub listed : AreTold w → answer ≡ 0 → (survey : Survey) (config tape : List ℕ)
      → form_of words ≡ Some (Surveys survey config tape)
      → Surveyed (text_for survey) limit (names_in w) config tape (happened_in w)
  -- What `check` of a file answered and wrote, but at want of memory and where a call on the outside failed: the status
  -- and the text that the file calls for, which is its first fault where it isn't accepted.
  pub checked_file : AreTold w → answer ≢ 1 → answer ≢ 6 → (file : FileForm) → form_of words ≡ Some (CheckFile file)
      → FileChecked limit (names_in w) file (happened_in w) answer
  -- At 0 `changes` wrote, item by item, what the tape changes of the rules that validation admits from the routes that
  -- are held after the item.
  pub changed : AreTold w → answer ≡ 0 → (config tape : List ℕ) → form_of words ≡ Some (Changes config tape)
      → Changed limit (names_in w) config tape (happened_in w)
  -- At 0 `convert` wrote the tape of the second version whose items the dump's records make.
  pub converted : AreTold w → answer ≡ 0 → (config dump : List ℕ)
      → form_of words ≡ Some (Converts config dump)
      → Converted limit (names_in w) config dump (happened_in w)
  -- What `announce` says to the other end and writes, and when it succeeds.
  pub announced : AreTold w → (config rules address : List ℕ) → form_of words ≡ Some (Announce config rules address)
      → AnnouncePromises limit (names_in w) config rules (happened_in w) (talk_in w) answer
  -- What `listen` says to the other end and writes, and when it succeeds.
  pub listened : AreTold w → (config address : List ℕ) → form_of words ≡ Some (Listen config address)
      → ListenPromises limit (names_in w) config (happened_in w) (talk_in w) answer
  -- What both ends of `pair` say and take, what it writes, and when it succeeds.
  pub paired : AreTold w → (config rules : List ℕ) → form_of words ≡ Some (Pair config rules)
      → PairPromises limit (names_in w) config rules (happened_in w) (talk_in w) answer
  -- At 0 `gen` wrote the counts of the admitted rules and of the lines, over the generator's tape and packets.
  pub generator : answer ≡ 0 → (count : ℕ) → form_of words ≡ Some (Gen count) → Generated count (happened_in w)
