-- What an announcing end comes to that waits for an OPEN, and behind it; and how a receiving end begins.
use Rattle.fs_speaker.proofs.Words.{◌≡◌, ◌⊎◌, inl, inr, ℕ, List, [], ◌∷◌, ◌++◌, length, Bool, true, false, if◌then◌else◌, min, Option, Some, None}
use Rattle.fs_speaker.proofs.Words.{Result, Ok, Err, refl, ap, sym, ◌∙◌, subst, arith, append_assoc, append-nil, parts_of, Config, Peer, Message}
use Rattle.fs_speaker.proofs.Words.{first_message, wrong_at, message_text, open_body, MessageFault, Open, open_read, text_first, Update, Handed}
use Rattle.fs_speaker.proofs.Words.{Point, rests, runs_by, shuts, with_taken, needs_of, at_start, announcer, at_fault, keepalive_to, lacks_of}
use Rattle.fs_speaker.proofs.Words.{no_farewell, notice_text, receiver, reply_to, Machine, opened, phase, taken, transition_by, Sending, Closed}
use Rattle.fs_speaker.proofs.Words.{Fault, Notified, NoFamily, Memory, State, WaitOpen, WaitKeep, Established, Times, Phase, runs_begun, runs_each}
use Rattle.fs_speaker.proofs.Words.{CanArrive, open_fits}
use Rattle.fs_message.{specs.{Laws.{own_open}, Open.{open_of}}, proofs.StreamLaws.{message_stable}}
use Rattle.fs_session.specs.{Times.{taken_in}, declared.{side.Needs.{Needs}, state.State.TheVariants.{Closed as IsClosed}}}
use Rattle.fs_session.proofs.Transitions.{each_transition}

abbrev Made : Type 0
Made = Result (Phase × Option Update) Closed

abbrev pub awaits : State → Bool
awaits WaitOpen = true
awaits _ = false

-- a message that is taken leaves an end past the OPEN, with AS numbers as they were
abbrev pub Past : Phase → Made → Type 0
Past now (Ok next) = (awaits next.0.state ≡ false) × (awaits now.state ≡ false → next.0.four ≡ now.four)
Past now (Err why) = Unit {0}

never : true ≡ false → ⊥
never e = cc

pub past : (machine : Machine) (now : Phase) (message : Message) → Past now (transition_by machine now message)
past machine now message =
    each_transition machine (Past now) now message (λ why. tt) (λ found e. (refl, λ h. absurd (never (sym (ap awaits e) ∙ h)))) (λ update e. (refl, λ h. refl))

no_answer : (state : State) → awaits state ≡ false → keepalive_to state ≡ []
no_answer WaitOpen e = absurd (never e)
no_answer WaitKeep e = refl
no_answer Established e = refl
no_answer IsClosed e = refl

no_word : (why : Closed) → at_fault no_farewell why ≡ []
no_word (Fault code subcode) = refl
no_word (Notified code subcode) = refl
no_word NoFamily = refl
no_word Memory = refl

abbrev as_made : Phase × Option Update → Made
as_made next = Ok next

same_four : (made next : Phase × Option Update) → as_made made ≡ as_made next → next.0.four ≡ made.0.four
same_four made next e = cc

module _ (config : Config) (needs : Needs) where
  abbrev teller : Machine
  teller = announcer config needs

  -- Past the OPEN an announcing end says nothing that it is handed for, and stays past it.
  abbrev pub Quietly : Phase → Handed → Type 0
  Quietly now made = (made.text ≡ []) × (made.point.closed ≡ None → (awaits made.point.phase.state ≡ false) × (made.point.phase.four ≡ now.four))

  pub quiet_by : (now : Phase) (times : Times) (octets : List ℕ) → awaits now.state ≡ false → Quietly now (runs_by teller now times octets)
  quiet_by now times octets =
      runs_each teller (parts_of first_message octets).1 wrong (λ now _ made. awaits now.state ≡ false → Quietly now made) (none wrong)
      (λ now times message messages why t e. (no_word why, λ o. absurd cc)) more (parts_of first_message octets).0 now times
    where
      wrong : Option MessageFault
      wrong = wrong_at (parts_of first_message octets).1

      none : (wrong : Option MessageFault) (now : Phase) (times : Times) → awaits now.state ≡ false
          → Quietly now (rests teller now times (parts_of first_message octets).1 wrong)
      none None now times e = (refl, λ o. (e, refl))
      none (Some fault) now times e = (refl, λ o. absurd cc)

      more : (now next : Phase) (update : Option Update) (message : Message) (messages : List Message) (later : Handed)
          → transition_by teller now message ≡ Ok (next, update)
          → (awaits next.state ≡ false → Quietly next later) → awaits now.state ≡ false → Quietly now (with_taken (keepalive_to now.state) update later)
      more now next update message messages later t quiet e =
          let k : Past now (Ok (next, update)) = subst (Past now) t (past teller now message) in
          let rest = quiet k.0 in
          (ap (λ (z : List ℕ). z ++ later.text) (no_answer now.state e) ∙ rest.0, λ o. ((rest.1 o).0, (rest.1 o).1 ∙ k.1 e))

  -- an OPEN that is taken says that AS numbers have four octets
  abbrev pub IsGood : Message → Type 0
  IsGood message = (next : Phase × Option Update) → transition_by teller at_start message ≡ Ok next → next.0.four ≡ true

  -- so the first message of the octets
  abbrev pub IsSafe : List ℕ → Type 0
  IsSafe octets = (found : Message × List ℕ) → first_message octets ≡ Some found → IsGood found.0

  pub record Heads (octets : List ℕ) : Type 0 where
    pub message : Message
    pub behind : List ℕ
    pub first : first_message octets ≡ Some (message, behind)
    pub good : IsGood message

  same_first : (a b : Message × List ℕ) → Some a ≡ Some b → a ≡ b
  same_first a b e = cc

  pub heads_safe : (octets : List ℕ) → Heads octets → IsSafe octets
  heads_safe octets h found f =
      subst (λ (m : Message × List ℕ). IsGood m.0) (same_first (h.message, h.behind) found (sym h.first ∙ f)) h.good

  pub none_safe : (octets : List ℕ) → octets ≡ [] → IsSafe octets
  none_safe octets e found f = absurd (never_found found (sym (ap first_message e) ∙ f))
    where
      never_found : (found : Message × List ℕ) → first_message [] ≡ Some found → ⊥
      never_found found h = cc

  pub safe_front : (octets more : List ℕ) → IsSafe (octets ++ more) → IsSafe octets
  safe_front octets more s found f = s (found.0, found.1 ++ more) (message_stable octets more found f)

  pub heads_more : (octets more : List ℕ) → Heads octets → Heads (octets ++ more)
  heads_more octets more h = record {
    message = h.message;
    behind = h.behind ++ more;
    first = message_stable octets more (h.message, h.behind) h.first;
    good = h.good;
  }

  -- What becomes of an announcing end that waits for the OPEN, by octets that are safe: it waits on, it closes without a
  -- word, or it took the OPEN.
  abbrev pub Waits : List ℕ → Handed → Type 0
  Waits octets made = (made.text ≡ []) × ((made.point.closed ≡ None) × ((made.point.phase ≡ at_start) × (made.point.waiting ≡ octets)))

  abbrev pub Shuts : Handed → Type 0
  Shuts made = (made.text ≡ []) × ((made.point.closed ≡ None) → ⊥)

  abbrev pub Opens : Handed → Type 0
  Opens made = (made.text ≡ message_text 4 [])
      × ((made.point.closed ≡ None) → (awaits made.point.phase.state ≡ false) × (made.point.phase.four ≡ true))

  abbrev pub Comes : List ℕ → Handed → Type 0
  Comes octets made = Waits octets made ⊎ (Shuts made ⊎ Opens made)

  pub teller_begins : (times : Times) (octets : List ℕ) → IsSafe octets
      → Comes octets (runs_by teller at_start times octets)
  teller_begins times octets safe =
      runs_begun teller at_start times octets (Comes octets) (inl (refl, (refl, (refl, refl)))) (λ why. inr (inl (no_word why, λ o. absurd cc)))
      (λ message behind next update f t.
      let four : next.four ≡ true = safe (message, behind) f (next, update) t in
      let k : Past at_start (Ok (next, update)) = subst (Past at_start) t (past teller at_start message) in
      let later = quiet_by next (taken_in WaitOpen times) behind k.0 in
      inr (inr (ap (λ (z : List ℕ). message_text 4 [] ++ z) later.0, λ o. ((later.1 o).0, (later.1 o).1 ∙ four))))

module _ (config : Config) (peer : Peer) (sending : Sending) (can : CanArrive config peer sending) where
  abbrev needs : Needs
  needs = needs_of sending.rules

  abbrev with_lack : Bool → Made
  with_lack b = if b then Err NoFamily else taken (phase WaitKeep true (min config.hold_time config.hold_time)) None

  own_good : IsGood config needs (record { kind = 1; body = open_body config.local_as config.hold_time config.local_id })
  own_good next h = by (lacks_of needs found) (sym read ∙ h)
    where
      found : Open
      found = own_open config.local_as config.hold_time config.local_id

      read : opened (announcer config needs) (open_of config.local_as (open_body config.local_as config.hold_time config.local_id))
          ≡ with_lack (lacks_of needs found)
      read =
          ap (λ (r : Result Open MessageFault). opened (announcer config needs) r)
          (open_read config.local_as config.hold_time config.local_id can.own.asn.small can.own.hold_time.small can.own.id.small can.own.asn.some
          can.own.hold_time.not_one can.own.hold_time.not_two can.own.id.some)

      by : (b : Bool) → with_lack b ≡ Ok next → next.0.four ≡ true
      by true e = absurd cc
      by false e = same_four (phase WaitKeep true (min config.hold_time config.hold_time), None) next e

  notice_good : (body : List ℕ) → IsGood config needs (record { kind = 3; body = body })
  notice_good body next h = absurd cc

  -- what a receiving end answers to an OPEN, and at a fault
  reply_heads : (more : List ℕ) → Heads config needs (reply_to config WaitOpen ++ more)
  reply_heads more =
      let body : List ℕ = open_body config.local_as config.hold_time config.local_id in
      let fits = open_fits (length body) refl in
      record {
        message = record { kind = 1; body = body };
        behind = message_text 4 [] ++ more;
        first = ap first_message (append_assoc (message_text 1 body) (message_text 4 []) more)
            ∙ text_first 1 body (message_text 4 [] ++ more) (omega arith) (omega arith) fits.0 fits.1;
        good = own_good;
      }

  notice_heads : (code subcode : ℕ) → Heads config needs (notice_text code subcode)
  notice_heads code subcode =
      let body : List ℕ = code ∷ subcode ∷ [] in
      record {
        message = record { kind = 3; body = body };
        behind = [];
        first = ap first_message (sym (append-nil (message_text 3 body))) ∙ text_first 3 body [] (omega arith) (omega arith) refl (omega arith);
        good = notice_good body;
      }

  -- A receiving end that waits for the OPEN and is open has no hold time.
  abbrev pub IsSilent : Point → Type 0
  IsSilent now = now.closed ≡ None → now.phase ≡ at_start

  abbrev pub Begins : Handed → Type 0
  Begins made = ((made.text ≡ []) × IsSilent made.point) ⊎ Heads config needs made.text

  shut_begins : (now : Phase) (times : Times) (why : Closed) → Begins (shuts (receiver config peer) now times why)
  shut_begins now times (Fault code subcode) = inr (notice_heads code subcode)
  shut_begins now times (Notified code subcode) = inl (refl, λ o. absurd cc)
  shut_begins now times NoFamily = inl (refl, λ o. absurd cc)
  shut_begins now times Memory = inl (refl, λ o. absurd cc)

  abbrev taker : Machine
  taker = receiver config peer

  pub taker_begins : (times : Times) (octets : List ℕ) → Begins (runs_by (receiver config peer) at_start times octets)
  taker_begins times octets =
      runs_begun taker at_start times octets Begins (inl (refl, λ o. refl)) (shut_begins at_start times)
      (λ message behind next update f t. inr (reply_heads (runs_by taker next (taken_in WaitOpen times) behind).text))
