-- The announcing end of a session: what it keeps, and what it says unasked: its OPEN, and then an UPDATE for each rule.
use Rattle.std.specs.Prelude.{◌≡◌, ℕ, ◌+◌, Bool, true, false, if◌then◌else◌, List, [], ◌∷◌, ◌++◌, drop, Option, Some, None, Result, Ok, Err, IfSome, IsTrue}
use Rattle.fs_base.specs.declared.config.{Config.{Config}, Peer.{Peer}}
use Rattle.fs_message.specs.Write.{message_text, open_body}
use Rattle.fs_attrs.specs.declared.update.Update.{Update}
use Rattle.fs_session.specs.declared.state.{State.{State, TheVariants.{Established}}, Closed.{Closed, TheVariants.{Memory}}}
use Rattle.fs_session.specs.declared.{sending.{Sent.{Sent}, Sending.{Sending}}, side.{Side.{Side}, Role.TheVariants.{Announcer}}}
use Rattle.fs_session.specs.{Transition.{Machine}, Side.{announcer}, Line.{Intake, Lined, closed_as, state_in, FeedsAt, Ticks}}
use Rattle.fs_session.specs.Sending.{is_sending, needs_of, text_sent}

-- Whose end it is and what it is to send, what it keeps of the other's octets, whether its OPEN was written, and how
-- many of the rules were.
pub record Announcing : Type 0 where
  pub config : Config
  pub peer : Peer
  pub sending : Sending
  pub line : Lined
  pub started : Bool
  pub appended : ℕ

abbrev pub announcing : Config → Peer → Sending → Lined → Bool → ℕ → Announcing
announcing config peer sending line started appended = record {
  config = config;
  peer = peer;
  sending = sending;
  line = line;
  started = started;
  appended = appended;
}

abbrev pub announcing_in : Intake → Sending → Bool → ℕ → Announcing
announcing_in intake sending started appended =
    announcing intake.side.config.now intake.side.peer sending intake.line started appended

-- the same with another line, with its OPEN written, with one rule more written
abbrev pub with_line : Announcing → Lined → Announcing
with_line end line = announcing end.config end.peer end.sending line end.started end.appended

abbrev pub has_started : Announcing → Announcing
has_started end = announcing end.config end.peer end.sending end.line true end.appended

abbrev pub one_sent : Announcing → Announcing
one_sent end = announcing end.config end.peer end.sending end.line end.started (end.appended + 1)

abbrev pub out_of_memory : Lined → Lined
out_of_memory line = closed_as Memory line

abbrev pub machine_in : Announcing → Machine
machine_in end = announcer end.config (needs_of end.sending.rules)

-- the OPEN that it begins with
abbrev pub open_sent : Config → Peer → Sending → List ℕ
open_sent config peer sending = message_text 1 (open_body peer.asn config.hold_time sending.id)

-- A closed end answers the same again and stays as it is.
abbrev pub StaysEnded : {A : Type 0} → Announcing → Announcing → Result A Closed → (out out' : List ℕ) → Type 0
StaysEnded old new result out out' = IfSome old.line.closed (λ why. (result ≡ Err why) × (new ≡ old) × (out' ≡ out))

-- OPEN is written once.
abbrev pub StartsWith : Bool → Announcing → Announcing → (out out' : List ℕ) → Type 0
StartsWith true old new out out' = (new ≡ old) × (out' ≡ out)
StartsWith false old new out out' = (new ≡ has_started old) × (out' ≡ out ++ open_sent old.config old.peer old.sending)

-- for want of memory the end closes, and nothing is written
abbrev pub RunsOut : Announcing → Announcing → Closed → (out out' : List ℕ) → Type 0
RunsOut old new why out out' = (why ≡ Memory) × (new ≡ with_line old (out_of_memory old.line)) × (out' ≡ out)

abbrev pub Starts : Announcing → Announcing → (out out' : List ℕ) → Result (Unit {0}) Closed → Type 0
Starts old new out out' (Ok _) = StartsWith old.started old new out out'
Starts old new out out' (Err why) = (old.started ≡ false) × RunsOut old new why out out'

abbrev pub StartsOpen : Announcing → Announcing → (out out' : List ℕ) → Result (Unit {0}) Closed → Type 0
StartsOpen old new out out' result = old.line.closed ≡ None → Starts old new out out' result

-- The next rule to be written, once Established.
abbrev pub first_text : (Sent → List ℕ) → List Sent → Option (List ℕ)
first_text text [] = None
first_text text (sent ∷ rules) = Some (text sent)

abbrev pub is_established : State → Bool
is_established Established = true
is_established _ = false

abbrev pub next_text : Announcing → Option (List ℕ)
next_text end =
    if is_established (state_in end.line)
    then first_text (text_sent end.config end.peer end.line.phase.four end.sending)
    (drop end.appended end.sending.rules)
    else None

abbrev pub SaysText : Option (List ℕ) → Bool → Announcing → Announcing → (out out' : List ℕ) → Type 0
SaysText None had old new out out' = (had ≡ false) × (new ≡ old) × (out' ≡ out)
SaysText (Some text) had old new out out' = (had ≡ true) × (new ≡ one_sent old) × (out' ≡ out ++ text)

-- It says so, and whether it did; or memory is wanting.
abbrev pub Says : Announcing → Announcing → (out out' : List ℕ) → Result Bool Closed → Type 0
Says old new out out' (Ok had) = SaysText (next_text old) had old new out out'
Says old new out out' (Err why) = RunsOut old new why out out'

abbrev pub SaysOpen : Announcing → Announcing → (out out' : List ℕ) → Result Bool Closed → Type 0
SaysOpen old new out out' result = old.line.closed ≡ None → Says old new out out' result

-- A text is appended and the answer is true, or there is none.
abbrev pub AppendsText : {E : Type 0} → Result Bool E → Option (List ℕ) → (out out' : List ℕ) → Type 0
AppendsText (Ok had) None out out' = (had ≡ false) × (out' ≡ out)
AppendsText (Ok had) (Some text) out out' = (had ≡ true) × (out' ≡ out ++ text)
AppendsText (Err why) text out out' = out' ≡ out

-- How many octets a call took; an announcing end takes no update.
abbrev pub counted : {A E : Type 0} → Result (ℕ × A) E → Result ℕ E
counted (Ok fed) = Ok fed.0
counted (Err why) = Err why

abbrev pub without_update : {E : Type 0} → Result ℕ E → Result (ℕ × Option Update) E
without_update (Ok count) = Ok (count, None)
without_update (Err why) = Err why

-- An open end goes on, as either end does.
abbrev pub FeedsEnd : ℕ → Announcing → Announcing → List ℕ → (out out' : List ℕ) → Result ℕ Closed → Type 0
FeedsEnd moment old new piece out out' result =
    old.line.closed ≡ None → FeedsAt (machine_in old) moment old.line new.line piece out out' (without_update result)

abbrev pub TicksEnd : ℕ → Announcing → Announcing → (out out' : List ℕ) → Result (Unit {0}) Closed → Type 0
TicksEnd moment old new out out' result = old.line.closed ≡ None → Ticks moment old.line new.line out out' result

-- There is a peer, and these rules may be sent for it.
abbrev pub CanSend : Config → Option Peer → Sending → Type 0
CanSend config None sending = ⊥
CanSend config (Some peer) sending = IsTrue (is_sending config peer sending)

-- what an announcing end keeps fits together
abbrev pub IsReady : Side → Sending → Type 0
IsReady side sending =
    (side.role ≡ Announcer (needs_of sending.rules)) × IsTrue (is_sending side.config.now side.peer sending)
