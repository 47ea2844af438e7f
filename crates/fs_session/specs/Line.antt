-- What either end of a session keeps of the other's octets, and what its calls do: a piece that is fed, a tick of the
-- clock, and a closing of our own.
use Rattle.std.specs.Prelude.{◌≡◌, ℕ, ◌≤◌, false, ⊤, List, [], ◌++◌, length, drop, Option, Some, None, Result, Ok, Err, IfSome}
use Rattle.fs_message.specs.{declared.fault.MessageFault.{MessageFault}, Stream.{first_message, wrong_at}, Write.{message_text}}
use Rattle.fs_message.specs.Deframer.{Framing, framing, pending}
use Rattle.fs_attrs.specs.declared.update.Update.{Update}
use Rattle.fs_session.specs.declared.state.{State.{State, TheVariants.{WaitOpen, Closed as IsClosed}}, Closed.{Closed, TheVariants.{Memory, Fault}}}
use Rattle.fs_session.specs.declared.side.Side.{Side}
use Rattle.fs_session.specs.declared.times.{Times.{Times}, Tick.{Tick, TheVariants.{Quiet, Keeps, Expires}}}
use Rattle.fs_session.specs.{Times.{no_times, at_moment, taken_in, written_now, tick_at}, Transition.{Machine, Phase, phase, faulted, transition_by}}
use Rattle.fs_session.specs.Side.{notice_text, at_fault}

-- The octets of the message begun, the phase, the moments, and how it closed.
pub record Lined : Type 0 where
  pub framing : Framing
  pub phase : Phase
  pub times : Times
  pub closed : Option Closed

abbrev pub lined : Framing → Phase → Times → Option Closed → Lined
lined framing phase times how = record { framing = framing; phase = phase; times = times; closed = how }

-- an end that keeps so much
pub record Intake : Type 0 where
  pub side : Side
  pub line : Lined

abbrev pub intake : Side → Lined → Intake
intake side line = record { side = side; line = line }

abbrev pub closed_as : Closed → Lined → Lined
closed_as why line = lined line.framing line.phase line.times (Some why)

-- before the first octet
abbrev pub fresh : Lined
fresh = lined (framing [] false None) (phase WaitOpen false 0) no_times None

abbrev pub state_in : Lined → State
state_in line = elim line.closed [ Some why ↦ IsClosed | None ↦ line.phase.state ]

-- while an end is open its deframer has met no fault
abbrev pub IsLive : Option Closed → Framing → Type 0
IsLive (Some why) framing = ⊤
IsLive None framing = framing.fault ≡ None

-- What the octets in hand come to: no message ends, one does and is taken, or the session closes.
pub data Step : Type 0 where
  waits : Step
  takes : (phase : Phase) (update : Option Update) (behind : List ℕ) → Step
  stops : Closed → Step

abbrev pub step_at : Result (Phase × Option Update) Closed → List ℕ → Step
step_at (Ok next) behind = takes next.0 next.1 behind
step_at (Err why) behind = stops why

abbrev pub rest_step : Option MessageFault → Step
rest_step None = waits
rest_step (Some fault) = stops (faulted fault)

abbrev pub step_by : Machine → Phase → List ℕ → Step
step_by machine now octets = elim (first_message octets) [
  | Some found ↦ step_at (transition_by machine now found.0) found.1
  | None ↦ rest_step (wrong_at octets)
]

-- What a step does to an end: a message that is taken moves the moment of the last one taken.
abbrev pub Advanced : Step → Lined → Lined → List ℕ → ℕ → Option Update → Type 0
Advanced waits old new piece count update =
    (count ≡ length piece) × (pending new.framing ≡ pending old.framing ++ piece) × (new.phase ≡ old.phase)
    × (update ≡ None) × (new.times ≡ old.times)
Advanced (takes next taken behind) old new piece count update =
    (count ≤ length piece) × (behind ≡ drop count piece) × (pending new.framing ≡ []) × (new.phase ≡ next)
    × (update ≡ taken) × (new.times ≡ taken_in old.phase.state old.times)
Advanced (stops why) old new piece count update = ⊥

-- an end at a moment
abbrev pub moved : ℕ → Lined → Lined
moved moment old = lined old.framing old.phase (at_moment moment old.times) old.closed

abbrev pub DoesAt : Step → ℕ → Lined → Lined → List ℕ → ℕ → Option Update → Type 0
DoesAt step moment old new piece count update = Advanced step (moved moment old) new piece count update

abbrev pub answer_of : Machine → State → Step → List ℕ
answer_of machine state (takes next update behind) = machine.answer state
answer_of machine state _ = []

-- the session closes so; for want of memory it may close at any time
abbrev pub CloseIs : Step → Closed → Type 0
CloseIs step Memory = ⊤
CloseIs step why = step ≡ stops why

abbrev pub step_in : Machine → Lined → List ℕ → Step
step_in machine old piece = step_by machine old.phase (pending old.framing ++ piece)

-- What an open end does with a piece: it goes on, or it closes.
abbrev pub Advances : Machine → Lined → Lined → List ℕ → List ℕ → List ℕ → Result (ℕ × Option Update) Closed → Type 0
Advances machine old new piece replies replies' (Ok fed) =
    Advanced (step_in machine old piece) old new piece fed.0 fed.1
    × (replies' ≡ replies ++ answer_of machine old.phase.state (step_in machine old piece))
Advances machine old new piece replies replies' (Err why) =
    CloseIs (step_in machine old piece) why × (replies' ≡ replies ++ at_fault machine.farewell why)

-- So at a moment.
abbrev pub FeedsAt : Machine → ℕ → Lined → Lined → List ℕ → List ℕ → List ℕ → Result (ℕ × Option Update) Closed → Type 0
FeedsAt machine moment old new piece replies replies' result =
    Advances machine (moved moment old) new piece replies replies' result

abbrev pub closed_after : {A : Type 0} → Result A Closed → Option Closed
closed_after (Ok _) = None
closed_after (Err why) = Some why

-- A fault of our own finding is answered with its NOTIFICATION, or memory is wanting and nothing is.
abbrev pub Refuses : ℕ → ℕ → List ℕ → List ℕ → Closed → Type 0
Refuses code subcode replies replies' Memory = replies' ≡ replies
Refuses code subcode replies replies' why =
    (why ≡ Fault code subcode) × (replies' ≡ replies ++ notice_text code subcode)

-- A closed end answers the same again and stays as it is.
abbrev pub StaysOver : {A : Type 0} → Lined → Lined → Result A Closed → (replies replies' : List ℕ) → Type 0
StaysOver old new result replies replies' =
    IfSome old.closed (λ why. (result ≡ Err why) × (new ≡ old) × (replies' ≡ replies))

-- An open end goes on.
abbrev pub FeedsOpen : Machine → ℕ → Lined → Lined → List ℕ → (replies replies' : List ℕ)
    → Result (ℕ × Option Update) Closed → Type 0
FeedsOpen machine moment old new piece replies replies' result =
    old.closed ≡ None → FeedsAt machine moment old new piece replies replies' result

-- What a tick does where it doesn't close, and how it closes: where the hold time has expired with a NOTIFICATION 4/0
-- (RFC 4271, section 6.5), or for want of memory for what it is to write.
abbrev pub TickDoes : Tick → Times → Times → List ℕ → List ℕ → Type 0
TickDoes Quiet now new out out' = (new ≡ now) × (out' ≡ out)
TickDoes Keeps now new out out' = (new ≡ written_now now) × (out' ≡ out ++ message_text 4 [])
TickDoes Expires now new out out' = ⊥

abbrev pub TickCloses : Tick → Closed → List ℕ → List ℕ → Type 0
TickCloses Expires why out out' = Refuses 4 0 out out' why
TickCloses Keeps why out out' = (why ≡ Memory) × (out' ≡ out)
TickCloses Quiet why out out' = ⊥

abbrev pub TimesTick : ℕ → Times → Times → List ℕ → List ℕ → Result (Unit {0}) Closed → Type 0
TimesTick hold now new out out' (Ok _) = TickDoes (tick_at hold now) now new out out'
TimesTick hold now new out out' (Err why) = TickCloses (tick_at hold now) why out out'

-- At a moment; what is kept of octets and state stays.
abbrev pub Ticks : ℕ → Lined → Lined → List ℕ → List ℕ → Result (Unit {0}) Closed → Type 0
Ticks moment old new out out' result =
    TimesTick old.phase.hold (at_moment moment old.times) new.times out out' result
    × ((new.framing ≡ old.framing) × (new.phase ≡ old.phase))

abbrev pub TicksOpen : ℕ → Lined → Lined → (out out' : List ℕ) → Result (Unit {0}) Closed → Type 0
TicksOpen moment old new out out' result = old.closed ≡ None → Ticks moment old new out out' result

-- An end that ceases is closed with a NOTIFICATION Cease (RFC 4486), or memory is wanting.
abbrev pub Ceases : ℕ → Option Closed → List ℕ → List ℕ → Result (Unit {0}) Closed → Type 0
Ceases subcode how out out' (Ok _) = (how ≡ Some (Fault 6 subcode)) × (out' ≡ out ++ notice_text 6 subcode)
Ceases subcode how out out' (Err why) = (why ≡ Memory) × (how ≡ Some Memory) × (out' ≡ out)

abbrev pub CeasesOpen : ℕ → Lined → Option Closed → (out out' : List ℕ) → Result (Unit {0}) Closed → Type 0
CeasesOpen subcode old how out out' result = old.closed ≡ None → Ceases subcode how out out' result
