-- What an end of a session comes to that is handed pieces, and that hears the clock, at moments.
use Rattle.std.specs.Prelude.{◌≡◌, ℕ, Bool, List, [], ◌++◌, Option, Some, None}
use Rattle.fs_base.specs.declared.config.{Config.{Config}, Peer.{Peer}}
use Rattle.fs_attrs.specs.declared.update.Update.{Update}
use Rattle.fs_message.specs.{Write.{message_text}, Deframer.{pending}}
use Rattle.fs_session.specs.declared.state.Closed.TheVariants.{Fault}
use Rattle.fs_session.specs.declared.times.{Tick.{Tick, TheVariants.{Quiet, Keeps, Expires}}, Times.{Times}}
use Rattle.fs_session.specs.declared.{sending.Sending.{Sending}, transition.Phase.{Phase}}
use Rattle.fs_session.specs.{Announcer.{Announcing}, Handed.{Point, point, Handed, handed, hand}, Line.{Lined, waits, step_by}}
use Rattle.fs_session.specs.{Session.{Live, at_start}, Side.{notice_text}, Times.{no_times, at_moment, written_now, tick_at}, Transition.{Machine}}

-- Whose end it is, and of an announcing end what it is to send, whether its OPEN was said, and how many rules were.
pub record Own : Type 0 where
  pub config : Config
  pub peer : Peer
  pub says : Option (Sending × Bool × ℕ)

abbrev pub own_of_taker : Live → Own
own_of_taker session = record { config = session.config; peer = session.peer; says = None }

abbrev pub own_of_teller : Announcing → Own
own_of_teller end = record { config = end.config; peer = end.peer; says = Some (end.sending, end.started, end.appended) }

-- before the first octet
abbrev pub first_point : Point
first_point = point [] at_start no_times None

abbrev pub ticks : Tick → List ℕ → Phase → Times → Handed
ticks Quiet waiting phase times = handed (point waiting phase times None) [] []
ticks Keeps waiting phase times = handed (point waiting phase (written_now times) None) [] (message_text 4 [])
ticks Expires waiting phase times = handed (point [] phase times (Some (Fault 4 0))) [] (notice_text 4 0)

-- What the clock does at an end, at a moment: nothing, a KEEPALIVE, or where the hold time has expired a closing with its
-- NOTIFICATION (RFC 4271, sections 4.4 and 6.5). A closed end does nothing.
abbrev pub ticked : ℕ → Point → Handed
ticked moment now = elim now.closed [
  | Some why ↦ handed now [] []
  | None ↦ ticks (tick_at now.phase.hold (at_moment moment now.times)) now.waiting now.phase (at_moment moment now.times)
]

-- What an open end keeps is this point: no message stands whole in the octets that wait.
pub record IsAt (machine : Machine) (line : Lined) (now : Point) : Type 0 where
  pub waiting_is : pending line.framing ≡ now.waiting
  pub phase_is : line.phase ≡ now.phase
  pub times_is : line.times ≡ now.times
  pub waits_is : step_by machine now.phase now.waiting ≡ waits

-- of a closed end it is told how it closed
pub record StandsAt (machine : Machine) (line : Lined) (now : Point) : Type 0 where
  pub closed_is : line.closed ≡ now.closed
  pub open_is : now.closed ≡ None → IsAt machine line now

-- From any point the end comes to the point that the piece makes of it, takes its updates and answers so.
abbrev pub HandsOver : Machine → ℕ → Lined → Lined → List ℕ → (taken taken' : List Update) → (out out' : List ℕ) → Type 0
HandsOver machine moment old new piece taken taken' out out' =
    (now : Point) → StandsAt machine old now
    → StandsAt machine new (hand machine moment now piece).point
    × ((taken' ≡ taken ++ (hand machine moment now piece).updates) × (out' ≡ out ++ (hand machine moment now piece).text))

-- and to the point that the clock makes of it
abbrev pub TicksOver : Machine → ℕ → Lined → Lined → (out out' : List ℕ) → Type 0
TicksOver machine moment old new out out' =
    (now : Point) → StandsAt machine old now
    → StandsAt machine new (ticked moment now).point × (out' ≡ out ++ (ticked moment now).text)
