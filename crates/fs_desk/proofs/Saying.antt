-- What an open session has said tells its state: it has answered the OPEN once it has taken it, and nothing else.
use Rattle.fs_desk.proofs.Words.{◌≡◌, ◌==◌, ℕ, List, ◌++◌, Bool, true, false, if◌then◌else◌, Option, Some, None, Result, Ok, Err, refl, sym}
use Rattle.fs_desk.proofs.Words.{append-nil, subst, Config, Peer, Update, WaitOpen, WaitKeep, Established, Closed, Phase, phase, taken, not_taken}
use Rattle.fs_desk.proofs.Words.{notified, opened, updates, transition_at, transition_by, Step, waits, takes, stops, step_at, rest_step, reply_to}
use Rattle.fs_desk.proofs.Words.{receiver, reads_update, step_of, said_in}
use Rattle.fs_message.specs.declared.{fault.MessageFault.{MessageFault}, open_.Open.{Open}}
use Rattle.fs_message.specs.{Notice.{notice_of}, Open.{open_of}, Stream.{Message, first_message, wrong_at}}
use Rattle.fs_attrs.specs.declared.update.UpdateFault.{UpdateFault}
use Rattle.fs_speaker.specs.declared.State.{State, TheVariants.{Closed as IsClosed}}

module _ (config : Config) (peer : Peer) (state : State) where
  -- behind a message that was taken: what was said before and the answer to it; an update leads to Established
  record Says (next : State) (update : Option Update) : Type 0 where
    said : said_in config next ≡ said_in config state ++ reply_to config state
    by_update : (found : Update) → update ≡ Some found → next ≡ Established

  abbrev SaysResult : Result (Phase × Option Update) Closed → Type 0
  SaysResult (Ok next) = Says next.0.state next.1
  SaysResult (Err why) = Unit {0}

  either_says : (b : Bool) (x y : Result (Phase × Option Update) Closed) → SaysResult x → SaysResult y → SaysResult (if b then x else y)
  either_says true x y p q = p
  either_says false x y p q = q

opened_says : (config : Config) (peer : Peer) (read : Result Open MessageFault) → SaysResult config peer WaitOpen (opened (receiver config peer) read)
opened_says config peer (Ok found) = record { said = refl; by_update = λ update h. absurd cc }
opened_says config peer (Err fault) = tt

updated_says : (config : Config) (peer : Peer) (four : Bool) (hold : ℕ) (read : Result (Option Update) UpdateFault)
    → SaysResult config peer Established (updates (phase Established four hold) read)
updated_says config peer four hold (Ok update) = record { said = sym (append-nil (reply_to config WaitOpen)); by_update = λ found h. refl }
updated_says config peer four hold (Err fault) = tt

state_says : (config : Config) (peer : Peer) (state : State) (four : Bool) (hold : ℕ) (message : Message)
    → SaysResult config peer state (transition_at (receiver config peer) state four hold message)
state_says config peer WaitOpen four hold message =
    either_says config peer WaitOpen (message.kind == 1) (opened (receiver config peer) (open_of peer.asn message.body)) not_taken
    (opened_says config peer (open_of peer.asn message.body)) tt
state_says config peer WaitKeep four hold message =
    either_says config peer WaitKeep (message.kind == 4) (taken (phase Established four hold) None) not_taken
    (record { said = sym (append-nil (reply_to config WaitOpen)); by_update = λ update h. absurd cc }) tt
state_says config peer Established four hold message =
    let stays : Result (Phase × Option Update) Closed = taken (phase Established four hold) None in
    let other : Result (Phase × Option Update) Closed = if message.kind == 5 then stays else not_taken in
    let alive : Result (Phase × Option Update) Closed = if message.kind == 4 then stays else other in
    let says : Says config peer Established Established None = record { said = sym (append-nil (reply_to config WaitOpen)); by_update = λ update h. refl } in
    either_says config peer Established (message.kind == 2) (updates (phase Established four hold) (reads_update config peer four message.body)) alive
    (updated_says config peer four hold (reads_update config peer four message.body))
    (either_says config peer Established (message.kind == 4) stays other says (either_says config peer Established (message.kind == 5) stays not_taken says tt))
state_says config peer IsClosed four hold message = tt

message_says : (config : Config) (peer : Peer) (now : Phase) (message : Message)
    → SaysResult config peer now.state (transition_by (receiver config peer) now message)
message_says config peer now message =
    either_says config peer now.state (message.kind == 3) (Err (notified (notice_of message.body)))
    (transition_at (receiver config peer) now.state now.four now.hold message)
    tt (state_says config peer now.state now.four now.hold message)

abbrev SaysStep : Config → Peer → State → Step → Type 0
SaysStep config peer state (takes next update behind) = Says config peer state next.state update
SaysStep config peer state waits = Unit {0}
SaysStep config peer state (stops why) = Unit {0}

at_says : (config : Config) (peer : Peer) (state : State) (made : Result (Phase × Option Update) Closed) (behind : List ℕ)
    → SaysResult config peer state made → SaysStep config peer state (step_at made behind)
at_says config peer state (Ok next) behind h = h
at_says config peer state (Err why) behind h = tt

rest_says : (config : Config) (peer : Peer) (state : State) (wrong : Option MessageFault) → SaysStep config peer state (rest_step wrong)
rest_says config peer state None = tt
rest_says config peer state (Some fault) = tt

step_says : (config : Config) (peer : Peer) (now : Phase) (octets : List ℕ) → SaysStep config peer now.state (step_of config peer now octets)
step_says config peer now octets = by (first_message octets)
  where
    by : (first : Option (Message × List ℕ))
        → SaysStep config peer now.state
        (elim first [ Some found ↦ step_at (transition_by (receiver config peer) now found.0) found.1 | None ↦ rest_step (wrong_at octets) ])
    by None = rest_says config peer now.state (wrong_at octets)
    by (Some found) = at_says config peer now.state (transition_by (receiver config peer) now found.0) found.1 (message_says config peer now found.0)

-- of a step that took a message
pub takes_says : (config : Config) (peer : Peer) (now next : Phase) (update : Option Update) (octets behind : List ℕ)
    → step_of config peer now octets ≡ takes next update behind
    → said_in config next.state ≡ said_in config now.state ++ reply_to config now.state
takes_says config peer now next update octets behind h = (subst (SaysStep config peer now.state) h (step_says config peer now octets)).said

pub takes_update : (config : Config) (peer : Peer) (now next : Phase) (update : Update) (octets behind : List ℕ)
    → step_of config peer now octets ≡ takes next (Some update) behind
    → next.state ≡ Established
takes_update config peer now next update octets behind h = (subst (SaysStep config peer now.state) h (step_says config peer now octets)).by_update update refl
