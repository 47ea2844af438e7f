-- What `keep` answers, what it asks of its gate, and what it writes.
use Rattle.std.specs.Prelude.{ℕ, List, [], ◌∷◌, ◌++◌, ◌==◌, Bool, true, false, Option, Some, None, IfSome, ◌≡◌, ◌⊎◌, ◌&&◌, ◌||◌, ◌+◌, ◌-◌, ◌^◌, ◌<◌}
use Rattle.std.specs.Prelude.{if◌then◌else◌, is_some, length, max, nat_le, not, option_and_then, take, ⊤}
use Rattle.std.specs.Option.{option_or}
use Rattle.fs_base.specs.Gate.{Content, Turn, What, absent, came, ended, gave, made, nothing, read, taken, too_long, unread, whole}
use Rattle.fs_base.specs.{Happened.{Happened}, Sink.{Grew}}
use Rattle.fs_base.specs.declared.config.{Config.{Config}, Peer.{Peer}}
use Rattle.fs_base.specs.declared.Came.{Came, TheVariants.{Taken, Made, Octets, Ended as HasEnded, Nothing}}
use Rattle.fs_base.specs.declared.Found.{Found as HasFound, TheVariants.{Whole, Absent, Failed as Unread, TooLong as Long}}
use Rattle.fs_conf.specs.{Config.{config_of}, Rules.{rules_of}}
use Rattle.fs_speaker.specs.{Sending.{sender_of}, declared.Sending.{Sending}}
use Rattle.fs_peering.specs.Keeper.{Connection, Kept, Outcome, accepts, at_first as keeper_at_first, dials, hears, tells_all}
use Rattle.fs_peering.specs.{KeeperLaws.{LeavesExactly}, Keeping.{Keeping, Stands}, declared.keeper.News.{News, TheVariants.{Up}}}
use Rattle.cmd_stages.specs.{Load.{Names, config_stage}, Refusal.{Found}}
use Rattle.cmd_wire.specs.{Judged.{IsJudged, Judged, accepted, refused}, News.{kept_text, line_of}, Recording.{AtGate, EndsBy, IsOfRecording, SomeFailed}}
use Rattle.cmd_wire.specs.Shelf.{Shelf, empty_shelf, is_due, settles, shelved}

-- What is kept where: by this configuration the rules of the file of this name, at this address; the file and the other end
-- give fewer octets than the limit.
pub record Order : Type 0 where
  pub config : Config
  pub rules : List ℕ
  pub address : List ℕ
  pub limit : ℕ

-- What a reading of the file found, at a moment of the clock on the wall and at a time of the steady one; and what that was
-- judged as, where it was judged.
pub record Reread : Type 0 where
  pub moment : ℕ
  pub time : ℕ
  pub content : Content
  pub judged : Option Judged

-- What came, at such a moment and time; the line of a connection that is dialled behind it, if one is; and what was read
-- behind it, if something was.
pub record Happening : Type 0 where
  pub moment : ℕ
  pub time : ℕ
  pub what : What
  pub line : ℕ
  pub reads : Option Reread

-- How it stands between two events: the greatest moment so far, how many octets the other end gave, what the file counts as
-- holding, and the session.
pub record Between : Type 0 where
  pub moment : ℕ
  pub heard : ℕ
  pub shelf : Shelf
  pub kept : Kept

-- before the first reading
abbrev pub at_first : Between
at_first = record { moment = 0; heard = 0; shelf = empty_shelf; kept = keeper_at_first }

-- What is asked of the gate, what is written, and how it stands then.
pub record Step : Type 0 where
  pub turns : List Turn
  pub text : List ℕ
  pub now : Between

abbrev pub rests : Between → Step
rests now = record { turns = []; text = []; now = now }

abbrev pub then_do : Step → (Between → Step) → Step
then_do first later = record {
  turns = first.turns ++ (later first.now).turns;
  text = first.text ++ (later first.now).text;
  now = (later first.now).now;
}

-- the session takes a step, and what there is to tell of it is written, at the greatest moment so far
abbrev pub keeps : (Kept → Outcome) → Between → Step
keeps act now = record {
  turns = (act now.kept).turns;
  text = line_of now.moment (act now.kept).news;
  now = record now { kept = (act now.kept).kept };
}

-- so many octets a connection gave
abbrev pub count_of : Came → ℕ
count_of (Octets line count) = count
count_of (Taken line from) = 0
count_of (Made line) = 0
count_of (HasEnded line) = 0
count_of Nothing = 0

-- octets that the other end gave
abbrev pub octets_in : What → ℕ
octets_in (gave line piece) = length piece
octets_in (taken line from) = 0
octets_in (made line) = 0
octets_in (ended line) = 0
octets_in nothing = 0

-- with so many octets more the other end has given as many as the limit
abbrev pub is_over : (limit heard octets : ℕ) → Bool
is_over limit heard octets = not (octets == 0) && nat_le limit (heard + octets)

-- the greatest moment and the count of octets behind an event
abbrev pub passed : (moment octets : ℕ) → Between → Between
passed moment octets now = record now { moment = max now.moment moment; heard = now.heard + octets }

-- and the greatest moment and the shelf behind a reading
abbrev pub put : Reread → Between → Between
put reread now = record now { moment = max now.moment reread.moment; shelf = shelved reread.content reread.time now.shelf }

-- what a content was judged as: these rules are kept from now on, or a line says why they aren't
abbrev pub judges : Order → (time : ℕ) → Option Judged → Between → Step
judges order time None now = rests now
judges order time (Some (accepted sending)) now = keeps (accepts order.config time sending) now
judges order time (Some (refused reason)) now = record { turns = []; text = kept_text now.moment reason; now = now }

-- whether a reading changes what the file counts as holding
abbrev pub changes : Shelf → Reread → Bool
changes shelf reread = settles shelf reread.content reread.time

-- What a reading calls for: where it changes what the file counts as holding, that is judged.
abbrev pub shelves : Order → Reread → Between → Step
shelves order reread now =
    if changes now.shelf reread then judges order reread.time reread.judged (put reread now) else rests (put reread now)

abbrev pub reads_now : Order → Reread → Turn
reads_now order reread = read reread.moment reread.time order.rules reread.content

-- A reading, and what it calls for.
abbrev pub rereads : Order → Reread → Between → Step
rereads order reread now = record {
  turns = reads_now order reread ∷ (shelves order reread now).turns;
  text = (shelves order reread now).text;
  now = (shelves order reread now).now;
}

abbrev pub rereads_if : Order → Option Reread → Between → Step
rereads_if order None now = rests now
rereads_if order (Some reread) now = rereads order reread now

-- all that is to be judged of a reading was
abbrev pub is_done : Shelf → Reread → Bool
is_done shelf reread = not (changes shelf reread) || is_some reread.judged

abbrev pub was_done : Shelf → Option Reread → Bool
was_done shelf None = false
was_done shelf (Some reread) = is_done shelf reread

-- a session that came up is told all rules
abbrev pub tells_if : Order → (time : ℕ) → Bool → Between → Step
tells_if order time true now = keeps (tells_all order.config time) now
tells_if order time false now = rests now

-- Behind the event: the file is read, and then a session that came up is told all rules.
abbrev pub looks : Order → (is_up : Bool) → (time : ℕ) → Option Reread → Between → Step
looks order is_up time reads now = then_do (rereads_if order reads now) (tells_if order time (is_up && was_done now.shelf reads))

abbrev pub is_up : Option News → Bool
is_up (Some Up) = true
is_up _ = false

-- What an event calls for whose moment has passed: the session hears it, the next connection is dialled where it is due, and
-- the file is read.
abbrev pub follows : Order → (line time : ℕ) → What → Option Reread → Between → Step
follows order line time what reads now =
    then_do (keeps (hears order.config time what) now) (λ heard.
    then_do (keeps (dials order.config line time order.address) heard)
    (looks order (is_up (hears order.config time what now.kept).news) time reads))

-- the file is to be read behind what came
abbrev pub is_read : Order → (time : ℕ) → What → Between → Bool
is_read order time what now = is_up (hears order.config time what now.kept).news || is_due now.shelf time

-- All that is done at an event.
abbrev pub step_at : Order → Between → Happening → Step
step_at order now event =
    follows order event.line event.time event.what event.reads (passed event.moment (octets_in event.what) now)

abbrev pub behind : Order → Between → Happening → Between
behind order now event = (step_at order now event).now

abbrev pub turns_at : Order → Between → Happening → List Turn
turns_at order now event = came event.moment event.time event.what ∷ (step_at order now event).turns

-- The turns of the gate at these events, what is written at them, and how it stands behind them.

abbrev pub turns_from : Order → Between → List Happening → List Turn
turns_from order now [] = []
turns_from order now (event ∷ later) = turns_at order now event ++ turns_from order (behind order now event) later

abbrev pub text_from : Order → Between → List Happening → List ℕ
text_from order now [] = []
text_from order now (event ∷ later) = (step_at order now event).text ++ text_from order (behind order now event) later

abbrev pub stands_from : Order → Between → List Happening → Between
stands_from order now [] = now
stands_from order now (event ∷ later) = stands_from order (behind order now event) later

-- what a reading was judged as is right
abbrev pub IsRight : Config → Reread → Type 0
IsRight config reread = IfSome reread.judged (IsJudged config reread.content)

-- The other end has given fewer octets than the limit, the file was read where it was to be, and what was to be judged was,
-- and rightly.
pub record Fits (order : Order) (now : Between) (event : Happening) : Type 0 where
  pub below : is_over order.limit now.heard (octets_in event.what) ≡ false
  pub due : is_some event.reads ≡ is_read order event.time event.what now
  pub done : IfSome event.reads (λ reread. is_done now.shelf reread ≡ true)
  pub right : IfSome event.reads (IsRight order.config)

abbrev pub AllFit : Order → Between → List Happening → Type 0
AllFit order now [] = ⊤
AllFit order now (event ∷ later) = Fits order now event × AllFit order (behind order now event) later

-- An event that was broken off: the file was read only where it was to be, and judged rightly if it was.
pub record FitsFront (order : Order) (now : Between) (event : Happening) : Type 0 where
  pub due : IfSome event.reads (λ reread. is_read order event.time event.what now ≡ true)
  pub right : IfSome event.reads (IsRight order.config)

-- The turns at an event that was broken off, if there was one: its own, and so many of those that are due for it.
abbrev pub begun_turns : Order → Between → Option Happening → (count : ℕ) → List Turn
begun_turns order now None count = []
begun_turns order now (Some event) count =
    came event.moment event.time event.what ∷ take count (step_at order now event).turns

-- and so many octets of what is due
abbrev pub begun_text : Order → Between → Option Happening → (count : ℕ) → List ℕ
begun_text order now None count = []
begun_text order now (Some event) count = take count (step_at order now event).text

-- The first reading.

abbrev pub IsThere : Content → Type 0
IsThere (whole octets) = ⊤
IsThere too_long = ⊤
IsThere absent = ⊥
IsThere unread = ⊥

abbrev pub is_missing : HasFound → Bool
is_missing Whole = false
is_missing Absent = true
is_missing Unread = true
is_missing Long = false

abbrev pub reads_alone : Order → Reread → Step
reads_alone order reread = record { turns = reads_now order reread ∷ []; text = []; now = at_first }

-- nothing more is done where the file isn't there, or can't be read
abbrev pub starts_by : Order → Reread → Content → Step
starts_by order reread (whole octets) = rereads order reread at_first
starts_by order reread too_long = rereads order reread at_first
starts_by order reread absent = reads_alone order reread
starts_by order reread unread = reads_alone order reread

abbrev pub starts : Order → Reread → Step
starts order reread = starts_by order reread reread.content

-- how it stands behind the first reading
abbrev pub begun : Order → Reread → Between
begun order first = (starts order first).now

abbrev pub starts_if : Order → Option Reread → Step
starts_if order None = rests at_first
starts_if order (Some first) = starts order first

-- what the file held at first was judged, and rightly
pub record IsFirst (order : Order) (first : Reread) : Type 0 where
  pub there : IsThere first.content
  pub done : is_some first.judged ≡ true
  pub right : IsRight order.config first

-- the rules of a content that was accepted
abbrev pub rules_in : Option Judged → Option Sending
rules_in None = None
rules_in (Some (accepted sending)) = Some sending
rules_in (Some (refused reason)) = None

-- what a reading is accepted as, where it changes what the file counts as holding
abbrev pub newly : Shelf → Reread → Option Sending
newly shelf reread = if changes shelf reread then rules_in reread.judged else None

abbrev pub newly_at : Between → Happening → Option Sending
newly_at now event = option_and_then (newly now.shelf) event.reads

-- what the file was accepted as last: at one of these events, or before
abbrev pub accepted_last : Order → Between → (before : Option Sending) → List Happening → Option Sending
accepted_last order now before [] = before
accepted_last order now before (event ∷ later) =
    accepted_last order (behind order now event) (option_or (newly_at now event) before) later

-- and where the first reading is counted
abbrev pub last_in : Order → Reread → List Happening → Option Sending
last_in order first events = accepted_last order (begun order first) (newly empty_shelf first) events

-- the identifier of accepted rules isn't 0.0.0.0
abbrev pub IsNamed : Option Sending → Type 0
IsNamed found = IfSome found (λ sending. 0 < sending.id)

abbrev pub AllNamed : Order → Between → List Happening → Type 0
AllNamed order now [] = ⊤
AllNamed order now (event ∷ later) = IsNamed (newly_at now event) × AllNamed order (behind order now event) later

abbrev pub AreNamed : Order → Reread → List Happening → Type 0
AreNamed order first events = IsNamed (newly empty_shelf first) × AllNamed order (begun order first) events

-- A connection is for the peer with the lowest number. The rules that it was told are those that are kept, those that the
-- file was accepted as last, and those of what it counts as holding, where that is a rules file. By what was said the other
-- end holds exactly them.
pub record IsExact (order : Order) (now : Between) (last : Option Sending) (connection : Connection) (told : Sending) : Type 0 where
  pub sender : sender_of order.config.peers ≡ Some connection.peer
  pub kept : now.kept.rules ≡ Some told
  pub last_is : last ≡ Some told
  pub held : (octets : List ℕ) (sending : Sending) → now.shelf.settled ≡ Some (whole octets)
      → rules_of order.config octets ≡ Some sending → told ≡ sending
  pub leaves : LeavesExactly order.config connection.peer told connection.spoken

-- So it is with each connection that was told rules, whose other end says AS numbers in four octets.
abbrev pub StandsExactly : Order → Between → (last : Option Sending) → Type 0
StandsExactly order now last =
    (connection : Connection) (told : Sending) → now.kept.connection ≡ Some connection → connection.told ≡ Some told
    → connection.point.phase.four ≡ true → IsExact order now last connection told

-- Of an accepted configuration it stands so behind each front of these events, where no rules that were accepted until then
-- have the identifier 0.0.0.0.
abbrev pub AreExact : Order → Reread → List Happening → Type 0
AreExact order first earlier =
    (text : List ℕ) (peer : Peer) (events later : List Happening) → config_of text ≡ Some order.config
    → sender_of order.config.peers ≡ Some peer → events ++ later ≡ earlier → AreNamed order first events
    → StandsExactly order (stands_from order (begun order first) events) (last_in order first events)

-- It ended before the first event: the file was read or not, and a front was done of what is due at its first reading.
pub record IsUnbegun (order : Order) (turns turns' : Option (List Turn)) (before now : Option (List ℕ)) : Type 0 where
  pub first : Option Reread
  pub right : IfSome first (IsRight order.config)
  pub asked : ℕ
  pub gate : Grew turns turns' (take asked (starts_if order first).turns)
  pub told : ℕ
  pub lines : Grew before now (take told (starts_if order first).text)

-- The file was read first, these events came, and perhaps one more, at which it was broken off. The gate told each, and was
-- asked for it what is due, and no more; and the lines that are due for it were written. By what was said the other end holds
-- exactly the rules that were accepted last.
pub record Keeps (order : Order) (turns turns' : Option (List Turn)) (before now : Option (List ℕ)) : Type 0 where
  pub first : Reread
  pub begins : IsFirst order first
  pub earlier : List Happening
  pub fit : AllFit order (begun order first) earlier
  pub last : Option Happening
  pub fits : IfSome last (FitsFront order (stands_from order (begun order first) earlier))
  pub asked : ℕ
  pub gate : Grew turns turns' ((starts order first).turns
      ++ (turns_from order (begun order first) earlier
      ++ begun_turns order (stands_from order (begun order first) earlier) last asked))
  pub told : ℕ
  pub lines : Grew before now ((starts order first).text
      ++ (text_from order (begun order first) earlier
      ++ begun_text order (stands_from order (begun order first) earlier) last told))
  pub exact : AreExact order first earlier

abbrev pub KeepsAll : Order → (turns turns' : Option (List Turn)) → (before now : Option (List ℕ)) → Type 0
KeepsAll order turns turns' before now = IsUnbegun order turns turns' before now ⊎ Keeps order turns turns' before now

-- the order of a command whose configuration is accepted
abbrev pub order_by : (rules address : List ℕ) → (limit : ℕ) → Config → Order
order_by rules address limit config = record { config = config; rules = rules; address = address; limit = limit }

-- Where the configuration is accepted the rules were kept so.
abbrev pub KeepsSo : (limit : ℕ) (holds : Names) → (config rules address : List ℕ) → Happened → AtGate → Type 0
KeepsSo limit holds config rules address call gate =
    (accepted : Config) → config_stage limit holds config ≡ Found accepted
    → KeepsAll (order_by rules address limit accepted) gate.turns gate.turns_now call.before.written call.now.written

-- the file wasn't there at first
pub record IsMissing (rules : List ℕ) (turns turns' : Option (List Turn)) : Type 0 where
  pub moment : ℕ
  pub time : ℕ
  pub gate : Grew turns turns' (read moment time rules absent ∷ [])

-- with the last event the other end has given as many octets as the limit, or 2^64 - 1 events were heard
abbrev pub IsFull : Order → Between → (earlier : List Happening) → (last : Option Happening) → Type 0
IsFull order now earlier None = length earlier ≡ 2 ^ 64 - 1
IsFull order now earlier (Some event) = is_over order.limit (stands_from order now earlier).heard (octets_in event.what) ≡ true

-- So of the events that the gate has told.
pub record Fills (order : Order) (turns turns' : Option (List Turn)) : Type 0 where
  pub first : Reread
  pub begins : IsFirst order first
  pub earlier : List Happening
  pub fit : AllFit order (begun order first) earlier
  pub last : Option Happening
  pub gate : Grew turns turns' ((starts order first).turns
      ++ (turns_from order (begun order first) earlier
      ++ begun_turns order (stands_from order (begun order first) earlier) last 0))
  pub full : IsFull order (begun order first) earlier last

-- Why it ended: as a command at a gate does, where a call on the outside failed or the rules file wasn't there at first, or
-- where the other end gave as many octets as the limit (or more came than can be counted).
abbrev pub EndsKeeping : (limit : ℕ) (holds : Names) → (config rules address : List ℕ) → Happened → AtGate → ℕ → Type 0
EndsKeeping limit holds config rules address call gate answer =
    EndsBy (config_stage limit holds config) (SomeFailed call gate ⊎ IsMissing rules gate.turns gate.turns_now)
    (λ accepted. Fills (order_by rules address limit accepted) gate.turns gate.turns_now) answer

-- a status that it may end with
abbrev pub IsOfKeeping : ℕ → Type 0
IsOfKeeping = IsOfRecording

-- What a station has.
pub record Stationed : Type 0 where
  pub order : Order
  pub keeping : Keeping
  pub shelf : Shelf
  pub moment : ℕ
  pub heard : ℕ

-- It stands as events leave one.
pub record StandsAt (now : Between) (station : Stationed) : Type 0 where
  pub config_is : station.keeping.config ≡ station.order.config
  pub stands : Stands now.kept station.keeping
  pub shelf_is : station.shelf ≡ now.shelf
  pub moment_is : station.moment ≡ now.moment
  pub heard_is : station.heard ≡ now.heard

-- It took a step: the gate was asked so much, this was written, and it stands as the step leaves it.
pub record Took (step : Step) (old new : Stationed) (turns turns' : Option (List Turn)) (before now : Option (List ℕ)) : Type 0 where
  pub gate : Grew turns turns' step.turns
  pub lines : Grew before now step.text
  pub stands : StandsAt step.now new
  pub order_is : new.order ≡ old.order

-- from wherever it stood
abbrev pub TookSo : (Between → Step) → (old new : Stationed) → (turns turns' : Option (List Turn)) → (before now : Option (List ℕ)) → Type 0
TookSo step old new turns turns' before now =
    (between : Between) → StandsAt between old → Took (step between) old new turns turns' before now

-- It was broken off: a front of what the gate was to be asked was, and a front of the text was written.
pub record Breaks (step : Step) (turns turns' : Option (List Turn)) (before now : Option (List ℕ)) : Type 0 where
  pub asked : ℕ
  pub gate : Grew turns turns' (take asked step.turns)
  pub told : ℕ
  pub lines : Grew before now (take told step.text)

abbrev pub BreaksSo : (Between → Step) → Stationed → (turns turns' : Option (List Turn)) → (before now : Option (List ℕ)) → Type 0
BreaksSo step old turns turns' before now =
    (between : Between) → StandsAt between old → Breaks (step between) turns turns' before now

-- a reading, at such a moment and time
abbrev pub reread_of : (moment time : ℕ) → Content → Option Judged → Reread
reread_of moment time content judged = record { moment = moment; time = time; content = content; judged = judged }

-- What a reading called for was done: what was to be judged was, and rightly.
pub record Shelves (moment time : ℕ) (content : Content) (old new : Stationed) (turns turns' : Option (List Turn)) (before now : Option (List ℕ)) : Type 0 where
  pub judged : Option Judged
  pub done : is_done old.shelf (reread_of moment time content judged) ≡ true
  pub right : IfSome judged (IsJudged old.order.config content)
  pub took : TookSo (shelves old.order (reread_of moment time content judged)) old new turns turns' before now

pub record BreaksShelving (moment time : ℕ) (content : Content) (old : Stationed) (turns turns' : Option (List Turn)) (before now : Option (List ℕ)) :
    Type 0 where
  pub judged : Option Judged
  pub right : IfSome judged (IsJudged old.order.config content)
  pub breaks : BreaksSo (shelves old.order (reread_of moment time content judged)) old turns turns' before now

-- The file was read, and what was to be judged was, and rightly.
pub record Reads (old new : Stationed) (turns turns' : Option (List Turn)) (before now : Option (List ℕ)) : Type 0 where
  pub reread : Reread
  pub done : is_done old.shelf reread ≡ true
  pub right : IsRight old.order.config reread
  pub took : TookSo (rereads old.order reread) old new turns turns' before now

-- the file was to be read, and perhaps was
pub record BreaksReading (old : Stationed) (turns turns' : Option (List Turn)) (before now : Option (List ℕ)) : Type 0 where
  pub reads : Option Reread
  pub right : IfSome reads (IsRight old.order.config)
  pub breaks : BreaksSo (rereads_if old.order reads) old turns turns' before now

-- Behind an event it was looked whether the file is to be read.
pub record Looks (is_up : Bool) (time : ℕ) (old new : Stationed) (turns turns' : Option (List Turn)) (before now : Option (List ℕ)) : Type 0 where
  pub reads : Option Reread
  pub due : is_some reads ≡ is_up || is_due old.shelf time
  pub done : IfSome reads (λ reread. is_done old.shelf reread ≡ true)
  pub right : IfSome reads (IsRight old.order.config)
  pub took : TookSo (looks old.order is_up time reads) old new turns turns' before now

pub record BreaksLooking (is_up : Bool) (time : ℕ) (old : Stationed) (turns turns' : Option (List Turn)) (before now : Option (List ℕ)) : Type 0 where
  pub reads : Option Reread
  pub due : IfSome reads (λ reread. is_up || is_due old.shelf time ≡ true)
  pub right : IfSome reads (IsRight old.order.config)
  pub breaks : BreaksSo (looks old.order is_up time reads) old turns turns' before now

-- the session came up at an event, or didn't
abbrev pub IsUpSo : (Kept → Outcome) → (answer : Bool) → Stationed → Type 0
IsUpSo act answer old = (between : Between) → StandsAt between old → answer ≡ is_up (act between.kept).news

-- the next connection was dialled, where it was due; nothing was written
abbrev pub DialsSo : (time : ℕ) → (old new : Stationed) → (turns turns' : Option (List Turn)) → Type 0
DialsSo time old new turns turns' =
    (line : ℕ)
    × ((written : Option (List ℕ)) → TookSo (keeps (dials old.order.config line time old.order.address)) old new turns turns' written written)

-- The file was read first.
pub record Begins (old new : Stationed) (turns turns' : Option (List Turn)) (before now : Option (List ℕ)) : Type 0 where
  pub first : Reread
  pub is_first : IsFirst old.order first
  pub took : Took (starts old.order first) old new turns turns' before now

-- What an event calls for was done.
pub record Follows (time : ℕ) (what : What) (between : Between) (old new : Stationed) (turns turns' : Option (List Turn))
    (before now : Option (List ℕ)) : Type 0 where
  pub line : ℕ
  pub reads : Option Reread
  pub due : is_some reads ≡ is_read old.order time what between
  pub done : IfSome reads (λ reread. is_done between.shelf reread ≡ true)
  pub right : IfSome reads (IsRight old.order.config)
  pub took : Took (follows old.order line time what reads between) old new turns turns' before now

abbrev pub FollowsSo : (time : ℕ) → What → (old new : Stationed) → (turns turns' : Option (List Turn)) → (before now : Option (List ℕ)) → Type 0
FollowsSo time what old new turns turns' before now =
    (between : Between) → StandsAt between old → Follows time what between old new turns turns' before now

pub record BreaksFollow (time : ℕ) (what : What) (order : Order) (between : Between) (turns turns' : Option (List Turn))
    (before now : Option (List ℕ)) : Type 0 where
  pub line : ℕ
  pub reads : Option Reread
  pub due : IfSome reads (λ reread. is_read order time what between ≡ true)
  pub right : IfSome reads (IsRight order.config)
  pub breaks : Breaks (follows order line time what reads between) turns turns' before now

abbrev pub BreaksFollowing : (time : ℕ) → What → Stationed → (turns turns' : Option (List Turn)) → (before now : Option (List ℕ)) → Type 0
BreaksFollowing time what old turns turns' before now =
    (between : Between) → StandsAt between old → BreaksFollow time what old.order between turns turns' before now

-- a station behind an event's moment and octets
abbrev pub passed_by : (moment octets : ℕ) → Stationed → Stationed
passed_by moment octets station = record station { moment = max station.moment moment; heard = station.heard + octets }

-- One event more was heard.
pub record Hears (between : Between) (event : Happening) (old new : Stationed) (turns turns' : Option (List Turn)) (before now : Option (List ℕ)) : Type 0 where
  pub fits : Fits old.order between event
  pub took : Took (step_at old.order between event) old new turns turns' before now

-- what came, with all that it is behind the event
abbrev pub event_of : (moment time : ℕ) → What → (line : ℕ) → Option Reread → Happening
event_of moment time what line reads = record { moment = moment; time = time; what = what; line = line; reads = reads }

abbrev pub HearsSo : (moment time : ℕ) → What → (old new : Stationed) → (turns turns' : Option (List Turn)) → (before now : Option (List ℕ)) → Type 0
HearsSo moment time what old new turns turns' before now =
    (between : Between) → StandsAt between old
    → (line : ℕ) × (reads : Option Reread) × Hears between (event_of moment time what line reads) old new turns turns' before now

-- It was broken off at an event; and where the limit was named, the other end has given as many octets with it, and nothing
-- more was done.
pub record BreaksEvent (limited : Type 0) (order : Order) (between : Between) (event : Happening) (turns turns' : Option (List Turn))
    (before now : Option (List ℕ)) : Type 0 where
  pub fits : FitsFront order between event
  pub breaks : Breaks (step_at order between event) turns turns' before now
  pub full : limited → (is_over order.limit between.heard (octets_in event.what) ≡ true) × Grew turns turns' []

abbrev pub BreaksHearing : (limited : Type 0) → (moment time : ℕ) → What → Stationed → (turns turns' : Option (List Turn))
    → (before now : Option (List ℕ)) → Type 0
BreaksHearing limited moment time what old turns turns' before now =
    (between : Between) → StandsAt between old
    → (line : ℕ) × (reads : Option Reread)
    × BreaksEvent limited old.order between (event_of moment time what line reads) turns turns' before now

-- the same of an event that the gate told
pub record HearsNext (between : Between) (event : Happening) (old new : Stationed) (turns turns' : Option (List Turn))
    (before now : Option (List ℕ)) : Type 0 where
  pub fits : Fits old.order between event
  pub gate : Grew turns turns' (turns_at old.order between event)
  pub lines : Grew before now (step_at old.order between event).text
  pub stands : StandsAt (behind old.order between event) new
  pub order_is : new.order ≡ old.order

abbrev pub HearsOne : (old new : Stationed) → (turns turns' : Option (List Turn)) → (before now : Option (List ℕ)) → Type 0
HearsOne old new turns turns' before now =
    (between : Between) → StandsAt between old → (event : Happening) × HearsNext between event old new turns turns' before now

abbrev pub IsOver : Order → Between → Option Happening → Type 0
IsOver order between None = ⊥
IsOver order between (Some event) = is_over order.limit between.heard (octets_in event.what) ≡ true

-- It was broken off at an event, or before one came; and where the limit was named, it was met, and nothing more was done.
pub record BreaksNext (limited : Type 0) (order : Order) (between : Between) (turns turns' : Option (List Turn)) (before now : Option (List ℕ)) : Type 0 where
  pub last : Option Happening
  pub fits : IfSome last (FitsFront order between)
  pub asked : ℕ
  pub gate : Grew turns turns' (begun_turns order between last asked)
  pub told : ℕ
  pub lines : Grew before now (begun_text order between last told)
  pub full : limited → IsOver order between last × Grew turns turns' (begun_turns order between last 0)

abbrev pub BreaksOne : (limited : Type 0) → Stationed → (turns turns' : Option (List Turn)) → (before now : Option (List ℕ)) → Type 0
BreaksOne limited old turns turns' before now =
    (between : Between) → StandsAt between old → BreaksNext limited old.order between turns turns' before now

-- Behind the first reading so many events came, and perhaps one more; and where the limit was named, it was met.
pub record Continues (limited : Type 0) (order : Order) (start : Between) (turns turns' : Option (List Turn)) (before now : Option (List ℕ)) : Type 0 where
  pub earlier : List Happening
  pub fit : AllFit order start earlier
  pub last : Option Happening
  pub fits : IfSome last (FitsFront order (stands_from order start earlier))
  pub asked : ℕ
  pub gate : Grew turns turns' (turns_from order start earlier ++ begun_turns order (stands_from order start earlier) last asked)
  pub told : ℕ
  pub lines : Grew before now (text_from order start earlier ++ begun_text order (stands_from order start earlier) last told)
  pub full : limited → IsFull order start earlier last
      × Grew turns turns' (turns_from order start earlier ++ begun_turns order (stands_from order start earlier) last 0)

abbrev pub ContinuesSo : (limited : Type 0) → Stationed → (turns turns' : Option (List Turn)) → (before now : Option (List ℕ)) → Type 0
ContinuesSo limited old turns turns' before now =
    (start : Between) → StandsAt start old → Continues limited old.order start turns turns' before now
