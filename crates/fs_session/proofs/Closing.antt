-- A message that closes the session.
use Rattle.fs_session.proofs.Words.{◌≡◌, ℕ, Bool, true, false, List, ◌++◌, drop, Option, Some, None, Ok, Err, ap, sym, ◌∙◌, subst, if◌then◌else◌}
use Rattle.fs_session.proofs.Words.{Message, message_of, first_message, Framing, Feeds, standing_message, Closed, Fault, Notified, NoFamily, Memory}
use Rattle.fs_session.proofs.Words.{Machine, Phase, transition_by, IsTransition, step_by, CloseIs, at_fault, ClosesAs}
use Rattle.fs_session.proofs.SessionSteps.{step_found}
use Rattle.std.proofs.lemmas.List.{append-nil}

-- A message stands, and it is the first of the octets in hand.
pub record StandsIn (begun piece : List ℕ) (count : ℕ) (stands : Bool) (framing : Framing) (message : Message) : Type 0 where
  pub fed : Feeds begun piece framing.begun (Ok (count, stands))
  pub stands_is : framing.stands ≡ stands
  pub message_is : Some message ≡ standing_message framing

first_is : (begun piece : List ℕ) (count : ℕ) (stands : Bool) (framing : Framing) (message : Message) → StandsIn begun piece count stands framing message
    → first_message (begun ++ piece) ≡ Some (message, drop count piece)
first_is begun piece count true framing message s =
    let at : Some message ≡ Some (message_of framing.begun) =
    s.message_is ∙ ap (λ (b : Bool). if b then Some (message_of framing.begun) else None) s.stands_is in
    let same : message ≡ message_of framing.begun = cc in
    let pair : Message → Option (Message × List ℕ) = λ m. Some (m, drop count piece) in
    s.fed.2 ∙ sym (ap pair same)
first_is begun piece count false framing message s =
    let at : Some message ≡ None = s.message_is ∙ ap (λ (b : Bool). if b then Some (message_of framing.begun) else None) s.stands_is in
    absurd cc

pub closes : (machine : Machine) (now : Phase) (begun piece : List ℕ) (count : ℕ) (stands : Bool) (framing : Framing) (message : Message)
    (why closed : Closed) (replies replies' : List ℕ) → StandsIn begun piece count stands framing message
    → IsTransition (Err why) (transition_by machine now message)
    → ClosesAs machine why replies replies' closed → CloseIs (step_by machine now (begun ++ piece)) closed
    × (replies' ≡ replies ++ at_fault machine.farewell closed)
closes machine now begun piece count stands framing message why Memory replies replies' s going ends = (tt, ends ∙ sym (append-nil replies))
closes machine now begun piece count stands framing message why (Fault code subcode) replies replies' s going ends =
    let t : transition_by machine now message ≡ Err (Fault code subcode) =
    subst (λ (w : Closed). IsTransition (Err w) (transition_by machine now message)) (sym ends.0) going in (
      step_found machine now (begun ++ piece) (message, drop count piece) (Err (Fault code subcode))
          (first_is begun piece count stands framing message s) t,
      ends.1,
    )
closes machine now begun piece count stands framing message why (Notified code subcode) replies replies' s going ends =
    let t : transition_by machine now message ≡ Err (Notified code subcode) =
    subst (λ (w : Closed). IsTransition (Err w) (transition_by machine now message)) (sym ends.0) going in (
      step_found machine now (begun ++ piece) (message, drop count piece) (Err (Notified code subcode))
          (first_is begun piece count stands framing message s) t,
      ends.1,
    )
closes machine now begun piece count stands framing message why NoFamily replies replies' s going ends =
    let t : transition_by machine now message ≡ Err NoFamily =
    subst (λ (w : Closed). IsTransition (Err w) (transition_by machine now message)) (sym ends.0) going in
    (step_found machine now (begun ++ piece) (message, drop count piece) (Err NoFamily) (first_is begun piece count stands framing message s) t, ends.1)
