use Rattle.fs_session.proofs.Words.{◌≡◌, ◌⊎◌, inl, inr, ℕ, List, [], ◌∷◌, ◌++◌, Option, Some, None, Result, Ok, Err, refl, ap, sym, ◌∙◌, subst}
use Rattle.fs_session.proofs.Words.{parts_of, parts_end, parts_step, MessageFault, Message, first_message, wrong_at, message_shrinks, message_stable}
use Rattle.fs_session.proofs.Words.{fault_stays, Update, Closed, Times, at_moment, taken_in, Machine, Phase, faulted, transition_by, Step, waits}
use Rattle.fs_session.proofs.Words.{takes, stops, step_at, rest_step, step_by, Handed, Point, point, handed, shuts, rests, with_taken, runs, runs_by}
use Rattle.fs_session.proofs.Words.{hand}

-- One step, and all that an end comes to: what a call does with the octets in hand is what comes first of them all.

abbrev pub Transition : Type 0
Transition = Result (Phase × Option Update) Closed

-- What a step says of the octets.
abbrev pub Shows : Machine → Phase → List ℕ → Step → Type 0
Shows machine now octets waits = (first_message octets ≡ None) × (wrong_at octets ≡ None)
Shows machine now octets (takes next update behind) =
    (message : Message) × (first_message octets ≡ Some (message, behind)) × (transition_by machine now message ≡ Ok (next, update))
Shows machine now octets (stops why) =
    ((fault : MessageFault) × (wrong_at octets ≡ Some fault) × (why ≡ faulted fault))
    ⊎ ((found : Message × List ℕ) × (first_message octets ≡ Some found) × (transition_by machine now found.0 ≡ Err why))

pub told : (machine : Machine) (now : Phase) (octets : List ℕ) → Shows machine now octets (step_by machine now octets)
told machine now octets = by (first_message octets) (wrong_at octets) refl refl
  where
    going : (found : Message × List ℕ) (made : Transition) → first_message octets ≡ Some found → transition_by machine now found.0 ≡ made
        → Shows machine now octets (step_at made found.1)
    going found (Ok next) f t = (found.0, f, t)
    going found (Err why) f t = inr (found, f, t)

    by : (first : Option (Message × List ℕ)) (wrong : Option MessageFault) → first_message octets ≡ first → wrong_at octets ≡ wrong
        → Shows machine now octets (elim first [ Some found ↦ step_at (transition_by machine now found.0) found.1 | None ↦ rest_step wrong ])
    by None None f w = (f, w)
    by None (Some fault) f w = inl (fault, w, refl)
    by (Some found) wrong f w = going found (transition_by machine now found.0) f refl

pub wrong_first : (octets : List ℕ) (fault : MessageFault) → wrong_at octets ≡ Some fault → first_message octets ≡ None
wrong_first octets fault h = rw h refl

abbrev pub ran : Machine → Phase → Times → Transition → (Phase → Handed) → Handed
ran machine now times (Ok next) rest = with_taken (machine.answer now.state) next.1 (rest next.0)
ran machine now times (Err why) rest = shuts machine now times why

pub runs_step : (machine : Machine) (now : Phase) (times : Times) (message : Message) (messages : List Message) (waiting : List ℕ) (wrong : Option MessageFault)
    → runs machine now times (message ∷ messages) waiting wrong
    ≡ ran machine now times (transition_by machine now message) (λ next. runs machine next (taken_in now.state times) messages waiting wrong)
unfolding runs
runs_step machine now times message messages waiting wrong = at (transition_by machine now message)
  where
    at : (made : Transition)
        → elim made [
          | Err why ↦ shuts machine now times why
          | Ok next ↦ with_taken (machine.answer now.state) next.1
              (runs machine next.0 (taken_in now.state times) messages waiting wrong)
        ]
        ≡ ran machine now times made (λ next. runs machine next (taken_in now.state times) messages waiting wrong)
    at (Ok next) = refl
    at (Err why) = refl

pub runs_none : (machine : Machine) (now : Phase) (times : Times) (waiting : List ℕ) (wrong : Option MessageFault)
    → runs machine now times [] waiting wrong ≡ rests machine now times waiting wrong
unfolding runs
runs_none machine now times waiting wrong = refl

-- What holds of an end at rest, of one that a message closes, and of one that takes a message where it holds of the rest,
-- holds of all that the messages come to.
pub runs_each : (machine : Machine) (waiting : List ℕ) (wrong : Option MessageFault) (P : Phase → List Message → Handed → Type 0)
    → ((now : Phase) (times : Times) → P now [] (rests machine now times waiting wrong))
    → ((now : Phase) (times : Times) (message : Message) (messages : List Message) (why : Closed) → transition_by machine now message ≡ Err why
    → P now (message ∷ messages) (shuts machine now times why))
    → ((now next : Phase) (update : Option Update) (message : Message) (messages : List Message) (later : Handed)
    → transition_by machine now message ≡ Ok (next, update)
    → P next messages later → P now (message ∷ messages) (with_taken (machine.answer now.state) update later))
    → (messages : List Message) (now : Phase) (times : Times) → P now messages (runs machine now times messages waiting wrong)
runs_each machine waiting wrong P none shut more [] now times = subst (P now []) (sym (runs_none machine now times waiting wrong)) (none now times)
runs_each machine waiting wrong P none shut more (message ∷ messages) now times =
    subst (P now (message ∷ messages)) (sym (runs_step machine now times message messages waiting wrong))
    (by (λ next. runs_each machine waiting wrong P none shut more messages next (taken_in now.state times))
    (transition_by machine now message) refl)
  where
    by : ((next : Phase) → P next messages (runs machine next (taken_in now.state times) messages waiting wrong)) → (made : Transition)
        → transition_by machine now message ≡ made
        → P now (message ∷ messages) (ran machine now times made (λ next. runs machine next (taken_in now.state times) messages waiting wrong))
    by rest (Ok next) t = more now next.0 next.1 message messages (runs machine next.0 (taken_in now.state times) messages waiting wrong) t (rest next.0)
    by rest (Err why) t = shut now times message messages why t

runs_first : (machine : Machine) (now : Phase) (times : Times) (octets : List ℕ) (found : Message × List ℕ) → first_message octets ≡ Some found
    → runs_by machine now times octets
    ≡ ran machine now times (transition_by machine now found.0) (λ next. runs_by machine next (taken_in now.state times) found.1)
runs_first machine now times octets found h =
    ap (λ (parts : List Message × List ℕ). runs machine now times parts.0 parts.1 (wrong_at parts.1)) (parts_step first_message message_shrinks octets found h)
    ∙ runs_step machine now times found.0 (parts_of first_message found.1).0 (parts_of first_message found.1).1 (wrong_at (parts_of first_message found.1).1)

runs_rest : (machine : Machine) (now : Phase) (times : Times) (octets : List ℕ) → first_message octets ≡ None
    → runs_by machine now times octets ≡ rests machine now times octets (wrong_at octets)
runs_rest machine now times octets h =
    ap (λ (parts : List Message × List ℕ). runs machine now times parts.0 parts.1 (wrong_at parts.1)) (parts_end first_message octets h)
    ∙ runs_none machine now times octets (wrong_at octets)

-- What the first message decides: the octets wait for more, close the end, or a message is taken and what stands behind it is run.
pub runs_begun : (machine : Machine) (now : Phase) (times : Times) (octets : List ℕ) (P : Handed → Type 0) → P (handed (point octets now times None) [] [])
    → ((why : Closed) → P (shuts machine now times why))
    → ((message : Message) (behind : List ℕ) (next : Phase) (update : Option Update) → first_message octets ≡ Some (message, behind)
    → transition_by machine now message ≡ Ok (next, update)
    → P (with_taken (machine.answer now.state) update (runs_by machine next (taken_in now.state times) behind)))
    → P (runs_by machine now times octets)
runs_begun machine now times octets P still shut more = by (first_message octets) refl
  where
    resting : (wrong : Option MessageFault) → P (rests machine now times octets wrong)
    resting None = still
    resting (Some fault) = shut (faulted fault)

    going : (found : Message × List ℕ) → first_message octets ≡ Some found → (made : Transition) → transition_by machine now found.0 ≡ made
        → P (ran machine now times made (λ next. runs_by machine next (taken_in now.state times) found.1))
    going found f (Ok next) t = more found.0 found.1 next.0 next.1 f t
    going found f (Err why) t = shut why

    by : (first : Option (Message × List ℕ)) → first_message octets ≡ first → P (runs_by machine now times octets)
    by None f = subst P (sym (runs_rest machine now times octets f)) (resting (wrong_at octets))
    by (Some found) f = subst P (sym (runs_first machine now times octets found f)) (going found f (transition_by machine now found.0) refl)

-- A message is taken at the front: it is answered, and then what stands behind it is run.
pub runs_takes : (machine : Machine) (now next : Phase) (times : Times) (update : Option Update) (octets behind more : List ℕ)
    → step_by machine now octets ≡ takes next update behind
    → runs_by machine now times (octets ++ more)
    ≡ with_taken (machine.answer now.state) update (runs_by machine next (taken_in now.state times) (behind ++ more))
runs_takes machine now next times update octets behind more h =
    let s : Shows machine now octets (takes next update behind) = subst (λ (step : Step). Shows machine now octets step) h (told machine now octets) in
    runs_first machine now times (octets ++ more) (s.0, behind ++ more) (message_stable octets more (s.0, behind) s.1)
    ∙ ap (λ (u : Transition). ran machine now times u (λ next. runs_by machine next (taken_in now.state times) (behind ++ more))) s.2

-- The octets close the session, whatever follows.
pub runs_stops : (machine : Machine) (now : Phase) (times : Times) (why : Closed) (octets more : List ℕ)
    → step_by machine now octets ≡ stops why → runs_by machine now times (octets ++ more) ≡ shuts machine now times why
runs_stops machine now times why octets more h = by (subst (λ (step : Step). Shows machine now octets step) h (told machine now octets))
  where
    by : Shows machine now octets (stops why) → runs_by machine now times (octets ++ more) ≡ shuts machine now times why
    by (inl f) =
        let stays = fault_stays octets more f.0 f.1 in
        runs_rest machine now times (octets ++ more) (wrong_first (octets ++ more) f.0 stays)
        ∙ ap (rests machine now times (octets ++ more)) stays ∙ ap (shuts machine now times) (sym f.2)
    by (inr t) =
        runs_first machine now times (octets ++ more) (t.0.0, t.0.1 ++ more) (message_stable octets more t.0 t.1)
        ∙ ap (λ (u : Transition). ran machine now times u (λ next. runs_by machine next (taken_in now.state times) (t.0.1 ++ more))) t.2

-- The octets wait for more.
pub runs_waits : (machine : Machine) (now : Phase) (times : Times) (octets : List ℕ)
    → step_by machine now octets ≡ waits → runs_by machine now times octets ≡ handed (point octets now times None) [] []
runs_waits machine now times octets h =
    let s : Shows machine now octets waits = subst (λ (step : Step). Shows machine now octets step) h (told machine now octets) in
    runs_rest machine now times octets s.0 ∙ ap (rests machine now times octets) s.1

abbrev hand_by : Machine → ℕ → Point → List ℕ → Option Closed → Handed
hand_by machine moment now piece how = elim how [
  | Some why ↦ handed now [] []
  | None ↦ runs_by machine now.phase (at_moment moment now.times) (now.waiting ++ piece)
]

-- An open end takes a piece, and a closed one nothing.
pub hand_each : (machine : Machine) (moment : ℕ) (now : Point) (piece : List ℕ) (P : Handed → Type 0)
    → (now.closed ≡ None → P (runs_by machine now.phase (at_moment moment now.times) (now.waiting ++ piece)))
    → ((why : Closed) → now.closed ≡ Some why → P (handed now [] [])) → P (hand machine moment now piece)
hand_each machine moment now piece P opened shut = by now.closed refl
  where
    by : (how : Option Closed) → now.closed ≡ how → P (hand_by machine moment now piece how)
    by None e = opened e
    by (Some why) e = shut why e

pub open_hand : (machine : Machine) (moment : ℕ) (now : Point) (piece : List ℕ) → now.closed ≡ None
    → hand machine moment now piece ≡ runs_by machine now.phase (at_moment moment now.times) (now.waiting ++ piece)
open_hand machine moment now piece e = ap (hand_by machine moment now piece) e

pub closed_hand : (machine : Machine) (moment : ℕ) (now : Point) (piece : List ℕ) (why : Closed) → now.closed ≡ Some why
    → hand machine moment now piece ≡ handed now [] []
closed_hand machine moment now piece why e = ap (hand_by machine moment now piece) e
