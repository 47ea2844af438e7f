-- What one message does at either end of a session: the table of states (RFC 4271, sections 6 and 8.2.2).
use Rattle.std.specs.Prelude.{◌≡◌, ℕ, ◌==◌, Bool, not, min, if◌then◌else◌, List, Option, None, Result, Ok, Err, ⊤}
use Rattle.fs_base.specs.declared.config.{Config.{Config}, Peer.{Peer}}
use Rattle.fs_message.specs.declared.{fault.MessageFault.{MessageFault}, notice.Notice.{Notice}, open_.Open.{Open}}
use Rattle.fs_message.specs.{Stream.{Message}, Open.{open_of}, Notice.{notice_of}}
use Rattle.fs_attrs.specs.declared.update.{Terms.{Terms}, Update.{Update}}
use Rattle.fs_attrs.specs.declared.update.UpdateFault.{UpdateFault, TheVariants.{List as ListFault, Network, Optional, Memory as NoMemory}}
use Rattle.fs_session.specs.declared.state.State.{State, TheVariants.{WaitOpen, WaitKeep, Established, Closed as IsClosed}}
use Rattle.fs_session.specs.declared.state.Closed.{Closed, TheVariants.{Fault, Notified, NoFamily, Memory}}
pub use Rattle.fs_session.specs.declared.transition.Phase.{Phase}

-- What an end of a session is given: the AS that the other end is to have and the hold time that it offers, whether
-- an OPEN lacks a family that it needs, what it takes of an UPDATE's body, by whether AS numbers have four octets, and
-- what it answers to a message that was taken in a state, and to a fault of these two codes.
pub record Machine : Type 0 where
  pub expected : ℕ
  pub offer : ℕ
  pub lacks : Open → Bool
  pub update : Bool → List ℕ → Result (Option Update) UpdateFault
  pub answer : State → List ℕ
  pub farewell : ℕ → ℕ → List ℕ

-- the state, whether AS numbers have four octets, and the hold time that was agreed, 0 before OPEN
abbrev pub phase : State → Bool → ℕ → Phase
phase state four hold = record { state = state; four = four; hold = hold }

-- A peer is external where its AS isn't ours. Its AS numbers in AS_PATH have four octets where its OPEN says so.
abbrev pub terms_of : Config → Peer → Bool → Terms
terms_of config peer four = record { external = not (peer.asn == config.local_as); four = four; address = peer.address }

-- the codes of an UPDATE's faults (RFC 4271, section 6.3)
abbrev pub closing_of : UpdateFault → Closed
closing_of ListFault = Fault 3 1
closing_of Network = Fault 3 10
closing_of (Optional wrong) = Fault 3 9
closing_of NoMemory = Memory

abbrev pub faulted : MessageFault → Closed
faulted fault = Fault fault.code fault.subcode

abbrev pub notified : Notice → Closed
notified notice = Notified notice.code notice.subcode

-- a message that the state doesn't take: Finite State Machine Error
abbrev pub not_taken : Result (Phase × Option Update) Closed
not_taken = Err (Fault 5 0)

abbrev pub taken : Phase → Option Update → Result (Phase × Option Update) Closed
taken next update = Ok (next, update)

-- The hold time that is agreed is the lesser of the two offers (RFC 4271, section 4.2).
abbrev pub opened : Machine → Result Open MessageFault → Result (Phase × Option Update) Closed
opened machine (Ok found) =
    if machine.lacks found then Err NoFamily
    else taken (phase WaitKeep found.four (min machine.offer found.hold_time)) None
opened machine (Err fault) = Err (faulted fault)

abbrev pub updates : Phase → Result (Option Update) UpdateFault → Result (Phase × Option Update) Closed
updates now (Ok update) = taken now update
updates now (Err fault) = Err (closing_of fault)

abbrev pub at_wait_open : Machine → Message → Result (Phase × Option Update) Closed
at_wait_open machine message =
    if message.kind == 1 then opened machine (open_of machine.expected message.body) else not_taken

abbrev pub at_wait_keep : Bool → ℕ → Message → Result (Phase × Option Update) Closed
at_wait_keep four hold message = if message.kind == 4 then taken (phase Established four hold) None else not_taken

abbrev pub at_established : Machine → Bool → ℕ → Message → Result (Phase × Option Update) Closed
at_established machine four hold message =
    if message.kind == 2 then updates (phase Established four hold) (machine.update four message.body)
    else if message.kind == 4 then taken (phase Established four hold) None
    else if message.kind == 5 then taken (phase Established four hold) None
    else not_taken

-- The table of states: what one message does. NOTIFICATION closes in each state.
abbrev pub transition_at : Machine → State → Bool → ℕ → Message → Result (Phase × Option Update) Closed
transition_at machine WaitOpen four hold message = at_wait_open machine message
transition_at machine WaitKeep four hold message = at_wait_keep four hold message
transition_at machine Established four hold message = at_established machine four hold message
transition_at machine IsClosed four hold message = not_taken

abbrev pub transition_by : Machine → Phase → Message → Result (Phase × Option Update) Closed
transition_by machine now message =
    if message.kind == 3 then Err (notified (notice_of message.body))
    else transition_at machine now.state now.four now.hold message

-- what is answered, where memory is there
abbrev pub IsTransition : Result (Phase × Option Update) Closed → Result (Phase × Option Update) Closed → Type 0
IsTransition (Err Memory) wanted = ⊤
IsTransition result wanted = wanted ≡ result
