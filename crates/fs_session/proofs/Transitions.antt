-- What one message makes of an end, by cases.
use Rattle.fs_session.proofs.Words.{◌≡◌, ◌⊎◌, inl, inr, ◌==◌, Bool, true, false, min, Option, None, Result, Ok, Err, refl, if◌then◌else◌, Open}
use Rattle.fs_session.proofs.Words.{Message, MessageFault, Update, UpdateFault, WaitOpen, WaitKeep, Established, Closed, Fault, NoFamily, Machine}
use Rattle.fs_session.proofs.Words.{Phase, phase, taken, not_taken, faulted, notified, closing_of, opened, updates, transition_at, transition_by}
use Rattle.fs_session.proofs.MessageRuns.{Transition}
use Rattle.fs_session.specs.declared.state.State.{State, TheVariants.{Closed as IsClosed}}
use Rattle.fs_message.specs.{Open.{open_of}, Notice.{notice_of}}

either : (P : Transition → Type 0) (b : Bool) (x y : Transition) → P x → P y → P (if b then x else y)
either P true x y p q = p
either P false x y p q = q

-- It closes the end, opens it, or leaves it Established as it was agreed, with the update that was read or none.
pub each_transition : (machine : Machine) (P : Transition → Type 0) (now : Phase) (message : Message) → ((why : Closed) → P (Err why))
    → ((found : Open) → now.state ≡ WaitOpen → P (taken (phase WaitKeep found.four (min machine.offer found.hold_time)) None))
    → ((update : Option Update) → (update ≡ None) ⊎ (machine.update now.four message.body ≡ Ok update) → P (taken (phase Established now.four now.hold) update))
    → P (transition_by machine now message)
each_transition machine P now message shuts opens goes =
    either P (message.kind == 3) (Err (notified (notice_of message.body))) (transition_at machine now.state now.four now.hold message)
    (shuts (notified (notice_of message.body))) (at now.state refl)
  where
    stays : Transition
    stays = taken (phase Established now.four now.hold) None

    read : (r : Result Open MessageFault) → now.state ≡ WaitOpen → P (opened machine r)
    read (Ok found) e =
        either P (machine.lacks found) (Err NoFamily) (taken (phase WaitKeep found.four (min machine.offer found.hold_time)) None) (shuts NoFamily)
        (opens found e)
    read (Err fault) e = shuts (faulted fault)

    updated : (r : Result (Option Update) UpdateFault) → machine.update now.four message.body ≡ r → P (updates (phase Established now.four now.hold) r)
    updated (Ok update) e = goes update (inr e)
    updated (Err fault) e = shuts (closing_of fault)

    alive : (b : Bool) (other : Transition) → P other → P (if b then stays else other)
    alive b other p = either P b stays other (goes None (inl refl)) p

    at : (state : State) → now.state ≡ state → P (transition_at machine state now.four now.hold message)
    at WaitOpen e = either P (message.kind == 1) (opened machine (open_of machine.expected message.body)) not_taken
        (read (open_of machine.expected message.body) e) (shuts (Fault 5 0))
    at WaitKeep e = alive (message.kind == 4) not_taken (shuts (Fault 5 0))
    at Established e =
        let other : Transition = if message.kind == 5 then stays else not_taken in
        either P (message.kind == 2) (updates (phase Established now.four now.hold) (machine.update now.four message.body)) (if message.kind == 4
        then stays else other)
        (updated (machine.update now.four message.body) refl)
        (alive (message.kind == 4) other (alive (message.kind == 5) not_taken (shuts (Fault 5 0))))
    at IsClosed e = shuts (Fault 5 0)
