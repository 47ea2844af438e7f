-- One step and the whole: what a call does with the octets at hand is what the session of the whole list begins with,
-- whatever follows. Without the moments an end takes the session's updates, answers its replies, and comes to its end.
use Rattle.fs_session.proofs.Words.{◌≡◌, ℕ, List, [], ◌∷◌, ◌++◌, Option, Some, None, Ok, Err, refl, ap, sym, ◌∙◌, Config, Peer, parts_of, parts_end}
use Rattle.fs_session.proofs.Words.{MessageFault, Message, first_message, wrong_at, Update, Closed, Times, no_times, taken_in, Machine, Phase}
use Rattle.fs_session.proofs.Words.{transition_by, waits, takes, stops, step_at, rest_step, step_by, receiver, at_fault, Handed, Point, rests, runs}
use Rattle.fs_session.proofs.Words.{runs_by, with_taken, reply_rest, replies, replies_by, Last, still, closed, with_update, rest_closes, plays}
use Rattle.fs_session.proofs.Words.{session_by, session_from, step_of}
use Rattle.fs_session.proofs.MessageRuns.{runs_each, runs_takes, runs_stops, runs_waits}
pub use Rattle.fs_session.proofs.MessageRuns.{Transition}

abbrev pub going : Transition → (Phase → List Update × Last) → List Update × Last
going (Ok next) rest = with_update next.1 (rest next.0)
going (Err why) rest = ([], closed why)

pub plays_step : (machine : Machine) (now : Phase) (message : Message) (messages : List Message) (wrong : Option MessageFault)
    → plays machine now (message ∷ messages) wrong ≡ going (transition_by machine now message) (λ next. plays machine next messages wrong)
unfolding plays
plays_step machine now message messages wrong = at (transition_by machine now message)
  where
    at : (made : Transition)
        → elim made [ Err why ↦ ([], closed why) | Ok next ↦ with_update next.1 (plays machine next.0 messages wrong) ]
        ≡ going made (λ next. plays machine next messages wrong)
    at (Ok next) = refl
    at (Err why) = refl

pub plays_none : (machine : Machine) (now : Phase) (wrong : Option MessageFault) → plays machine now [] wrong ≡ ([], rest_closes now wrong)
unfolding plays
plays_none machine now wrong = refl

pub session_rest : (machine : Machine) (now : Phase) (octets : List ℕ) → first_message octets ≡ None
    → session_by machine now octets ≡ ([], rest_closes now (wrong_at octets))
session_rest machine now octets h =
    ap (λ (parts : List Message × List ℕ). plays machine now parts.0 (wrong_at parts.1)) (parts_end first_message octets h)
    ∙ plays_none machine now (wrong_at octets)

abbrev pub answered : Machine → Phase → Transition → (Phase → List ℕ) → List ℕ
answered machine now (Ok next) rest = machine.answer now.state ++ rest next.0
answered machine now (Err why) rest = at_fault machine.farewell why

pub replies_step : (machine : Machine) (now : Phase) (message : Message) (messages : List Message) (wrong : Option MessageFault)
    → replies machine now (message ∷ messages) wrong
    ≡ answered machine now (transition_by machine now message) (λ next. replies machine next messages wrong)
unfolding replies
replies_step machine now message messages wrong = at (transition_by machine now message)
  where
    at : (made : Transition)
        → elim made [ Err why ↦ at_fault machine.farewell why | Ok next ↦ machine.answer now.state ++ replies machine next.0 messages wrong ]
        ≡ answered machine now made (λ next. replies machine next messages wrong)
    at (Ok next) = refl
    at (Err why) = refl

pub replies_none : (machine : Machine) (now : Phase) (wrong : Option MessageFault) → replies machine now [] wrong ≡ reply_rest machine wrong
unfolding replies
replies_none machine now wrong = refl

-- what an end stands at, without its moments and its octets
abbrev pub last_of : Point → Last
last_of now = elim now.closed [ Some why ↦ closed why | None ↦ still now.phase ]

abbrev pub seen : Handed → List Update × Last
seen made = (made.updates, last_of made.point)

with_seen : (answer : List ℕ) (update : Option Update) (later : Handed) → with_update update (seen later) ≡ seen (with_taken answer update later)
with_seen answer None later = refl
with_seen answer (Some update) later = refl

-- The session and the replies are what the end is seen to take and to say.
pub runs_seen : (machine : Machine) (messages : List Message) (now : Phase) (times : Times) (waiting : List ℕ) (wrong : Option MessageFault)
    → (plays machine now messages wrong ≡ seen (runs machine now times messages waiting wrong))
    × (replies machine now messages wrong ≡ (runs machine now times messages waiting wrong).text)
runs_seen machine messages now times waiting wrong =
    runs_each machine waiting wrong (λ now messages made. (plays machine now messages wrong ≡ seen made)
    × (replies machine now messages wrong ≡ made.text)) (none wrong)
    (λ now times message messages why t. (
      plays_step machine now message messages wrong ∙ ap (λ (made : Transition). going made (λ next. plays machine next messages wrong)) t,
      replies_step machine now message messages wrong ∙ ap (λ (made : Transition). answered machine now made (λ next. replies machine next messages wrong)) t,
    ))
    (λ now next update message messages later t more. (
      plays_step machine now message messages wrong ∙ ap (λ (made : Transition). going made (λ next. plays machine next messages wrong)) t
          ∙ ap (with_update update) more.0 ∙ with_seen (machine.answer now.state) update later,
      replies_step machine now message messages wrong ∙ ap (λ (made : Transition). answered machine now made (λ next. replies machine next messages wrong)) t
          ∙ ap (λ (z : List ℕ). machine.answer now.state ++ z) more.1,
    ))
    messages now times
  where
    none : (wrong : Option MessageFault) (now : Phase) (times : Times)
        → (plays machine now [] wrong ≡ seen (rests machine now times waiting wrong))
        × (replies machine now [] wrong ≡ (rests machine now times waiting wrong).text)
    none None now times = (plays_none machine now None, replies_none machine now None)
    none (Some fault) now times = (plays_none machine now (Some fault), replies_none machine now (Some fault))

pub session_seen : (machine : Machine) (now : Phase) (times : Times) (octets : List ℕ) → session_by machine now octets ≡ seen (runs_by machine now times octets)
session_seen machine now times octets =
    (runs_seen machine (parts_of first_message octets).0 now times (parts_of first_message octets).1 (wrong_at (parts_of first_message octets).1)).0

pub replies_seen : (machine : Machine) (now : Phase) (times : Times) (octets : List ℕ) → replies_by machine now octets ≡ (runs_by machine now times octets).text
replies_seen machine now times octets =
    (runs_seen machine (parts_of first_message octets).0 now times (parts_of first_message octets).1 (wrong_at (parts_of first_message octets).1)).1

pub runs_updates : (machine : Machine) (now : Phase) (times : Times) (octets : List ℕ)
    → (runs_by machine now times octets).updates ≡ (session_by machine now octets).0
runs_updates machine now times octets = sym (ap (λ (z : List Update × Last). z.0) (session_seen machine now times octets))

pub runs_text : (machine : Machine) (now : Phase) (times : Times) (octets : List ℕ) → (runs_by machine now times octets).text ≡ replies_by machine now octets
runs_text machine now times octets = sym (replies_seen machine now times octets)

pub step_found : (machine : Machine) (now : Phase) (octets : List ℕ) (found : Message × List ℕ) (made : Transition) → first_message octets ≡ Some found
    → transition_by machine now found.0 ≡ made → step_by machine now octets ≡ step_at made found.1
step_found machine now octets found made h t =
    ap (λ (o : Option (Message × List ℕ)). elim o [ Some f ↦ step_at (transition_by machine now f.0) f.1 | None ↦ rest_step (wrong_at octets) ]) h
    ∙ ap (λ (u : Transition). step_at u found.1) t

-- A message is taken at the front: the session goes on behind it, whatever follows.
pub machine_takes : (machine : Machine) (now next : Phase) (update : Option Update) (octets behind more : List ℕ)
    → step_by machine now octets ≡ takes next update behind
    → session_by machine now (octets ++ more) ≡ with_update update (session_by machine next (behind ++ more))
machine_takes machine now next update octets behind more h =
    let later : Handed = runs_by machine next (taken_in now.state no_times) (behind ++ more) in
    session_seen machine now no_times (octets ++ more) ∙ ap seen (runs_takes machine now next no_times update octets behind more h)
    ∙ sym (ap (with_update update) (session_seen machine next (taken_in now.state no_times) (behind ++ more))
    ∙ with_seen (machine.answer now.state) update later)

-- The octets close the session: nothing behind them counts.
pub machine_stops : (machine : Machine) (now : Phase) (why : Closed) (octets more : List ℕ)
    → step_by machine now octets ≡ stops why → session_by machine now (octets ++ more) ≡ ([], closed why)
machine_stops machine now why octets more h =
    session_seen machine now no_times (octets ++ more) ∙ ap seen (runs_stops machine now no_times why octets more h)

-- The octets wait for more: the session stands where it stood.
pub machine_waits : (machine : Machine) (now : Phase) (octets : List ℕ)
    → step_by machine now octets ≡ waits → session_by machine now octets ≡ ([], still now)
machine_waits machine now octets h = session_seen machine now no_times octets ∙ ap seen (runs_waits machine now no_times octets h)

-- The same at the receiving end.
pub session_takes : (config : Config) (peer : Peer) (now next : Phase) (update : Option Update) (octets behind more : List ℕ)
    → step_of config peer now octets ≡ takes next update behind
    → session_from config peer now (octets ++ more) ≡ with_update update (session_from config peer next (behind ++ more))
session_takes config peer = machine_takes (receiver config peer)

pub session_stops : (config : Config) (peer : Peer) (now : Phase) (why : Closed) (octets more : List ℕ)
    → step_of config peer now octets ≡ stops why → session_from config peer now (octets ++ more) ≡ ([], closed why)
session_stops config peer = machine_stops (receiver config peer)

pub session_waits : (config : Config) (peer : Peer) (now : Phase) (octets : List ℕ)
    → step_of config peer now octets ≡ waits → session_from config peer now octets ≡ ([], still now)
session_waits config peer = machine_waits (receiver config peer)
