-- What messages leave of a phase: past its OPEN the machine of an announcing end answers nothing, and the hold time that an
-- end agreed on stays as long as the session does; before the OPEN there is none.
use Rattle.fs_peering.proofs.Words.{Closed, Config, Established, Fault, Handed, Machine, Memory, Message, MessageFault, Needs, NoFamily, Notified}
use Rattle.fs_peering.proofs.Words.{Open, Phase, State, Times, Update, UpdateFault, WaitKeep, WaitOpen, announcer, at_fault}
use Rattle.fs_peering.proofs.Words.{is_established, keepalive_to, no_farewell, not_taken, notice_of, notified, open_of, opened, phase, runs}
use Rattle.fs_peering.proofs.Words.{runs_by, shuts, step_by, taken, taken_in, takes, transition_at, transition_by, updates, Last, closed}
use Rattle.fs_peering.proofs.Words.{plays, session_by, still, ◌≡◌, ◌==◌, ℕ, List, [], ◌∷◌, ◌++◌, Bool, true, false, if◌then◌else◌, min, Option, Some}
use Rattle.fs_peering.proofs.Words.{None, Result, Ok, Err, refl, ap, sym, ◌∙◌, subst, ◌⊎◌, inl, inr, ran, runs_none, runs_step, Shows, told, going}
use Rattle.fs_peering.proofs.Words.{plays_none, plays_step, last_update}
use Rattle.std.proofs.lemmas.Bool.{true≢false as never}
use Rattle.fs_speaker.specs.declared.State.TheVariants.{Closed as IsClosed}

abbrev Made : Type 0
Made = Result (Phase × Option Update) Closed

abbrev pub awaits_open : State → Bool
awaits_open WaitOpen = true
awaits_open _ = false

pub unawaited : (state : State) → is_established state ≡ true → awaits_open state ≡ false
unawaited WaitOpen h = absurd cc
unawaited WaitKeep h = absurd cc
unawaited Established h = refl
unawaited IsClosed h = absurd cc

-- a later phase of the same session, past its OPEN
pub record Goes (now next : Phase) : Type 0 where
  pub four_is : next.four ≡ now.four
  pub hold_is : next.hold ≡ now.hold
  pub past : awaits_open next.state ≡ false
  pub up : is_established now.state ≡ true → is_established next.state ≡ true

pub goes_then : (a b c : Phase) → Goes a b → Goes b c → Goes a c
goes_then a b c f l = record { four_is = l.four_is ∙ f.four_is; hold_is = l.hold_is ∙ f.hold_is; past = l.past; up = λ e. l.up (f.up e) }

-- a message that is taken leaves an end past the OPEN, and one that is past it as it was agreed
abbrev pub GoesTo : Phase → Made → Type 0
GoesTo now (Ok next) = (awaits_open next.0.state ≡ false) × (awaits_open now.state ≡ false → Goes now next.0)
GoesTo now (Err why) = Unit {0}

either : (now : Phase) (b : Bool) (x y : Made) → GoesTo now x → GoesTo now y → GoesTo now (if b then x else y)
either now true x y p q = p
either now false x y p q = q

module _ (machine : Machine) where
  goes_opened : (now : Phase) (r : Result Open MessageFault) → awaits_open now.state ≡ true → GoesTo now (opened machine r)
  goes_opened now (Ok found) e =
      either now (machine.lacks found) (Err NoFamily) (taken (phase WaitKeep found.four (min machine.offer found.hold_time)) None) tt (
        refl,
        λ h. absurd (never (sym e ∙ h)),
      )
  goes_opened now (Err fault) e = tt

  goes_updates : (four : Bool) (hold : ℕ) (r : Result (Option Update) UpdateFault)
      → GoesTo (phase Established four hold) (updates (phase Established four hold) r)
  goes_updates four hold (Ok update) = (refl, λ e. record { four_is = refl; hold_is = refl; past = refl; up = λ h. refl })
  goes_updates four hold (Err fault) = tt

  goes_at : (state : State) (four : Bool) (hold : ℕ) (message : Message) → GoesTo (phase state four hold) (transition_at machine state four hold message)
  goes_at WaitOpen four hold message =
      either (phase WaitOpen four hold) (message.kind == 1) (opened machine (open_of machine.expected message.body)) not_taken
      (goes_opened (phase WaitOpen four hold) (open_of machine.expected message.body) refl) tt
  goes_at WaitKeep four hold message =
      either (phase WaitKeep four hold) (message.kind == 4) (taken (phase Established four hold) None) not_taken
      (refl, λ e. record { four_is = refl; hold_is = refl; past = refl; up = λ h. refl }) tt
  goes_at Established four hold message =
      let now : Phase = phase Established four hold in
      let stays : Made = taken now None in
      let same : GoesTo now stays = (refl, λ e. record { four_is = refl; hold_is = refl; past = refl; up = λ h. refl }) in
      let other : Made = if message.kind == 5 then stays else not_taken in
      let alive : Made = if message.kind == 4 then stays else other in
      either now (message.kind == 2) (updates now (machine.update four message.body)) alive (goes_updates four hold (machine.update four message.body))
      (either now (message.kind == 4) stays other same (either now (message.kind == 5) stays not_taken same tt))
  goes_at IsClosed four hold message = tt

  pub goes_on : (now : Phase) (message : Message) → GoesTo now (transition_by machine now message)
  goes_on now message =
      either now (message.kind == 3) (Err (notified (notice_of message.body))) (transition_at machine now.state now.four now.hold message) tt
      (goes_at now.state now.four now.hold message)

pub silent : (why : Closed) → at_fault no_farewell why ≡ []
silent (Fault code subcode) = refl
silent (Notified code subcode) = refl
silent NoFamily = refl
silent Memory = refl

answers_none : (state : State) → awaits_open state ≡ false → keepalive_to state ≡ []
answers_none WaitOpen e = absurd cc
answers_none WaitKeep e = refl
answers_none Established e = refl
answers_none IsClosed e = refl

module _ (config : Config) (needs : Needs) where
  abbrev machine : Machine
  machine = announcer config needs

  -- so by one step
  pub step_goes : (now next : Phase) (octets behind : List ℕ) (update : Option Update) → awaits_open now.state ≡ false
      → step_by machine now octets ≡ takes next update behind → Goes now next
  step_goes now next octets behind update e h =
      let shows : Shows machine now octets (takes next update behind) = subst (Shows machine now octets) h (told machine now octets) in
      (subst (GoesTo now) shows.2 (goes_on machine now shows.0)).1 e

  -- past the OPEN nothing is answered
  pub record Quiet (now : Phase) (made : Handed) : Type 0 where
    pub text_is : made.text ≡ []
    pub goes : made.point.closed ≡ None → Goes now made.point.phase

  shut_quiet : (now at : Phase) (times : Times) (why : Closed) → Quiet now (shuts machine at times why)
  shut_quiet now at times why = record { text_is = silent _; goes = λ h. absurd (never h) }
    where
      never : Some why ≡ None → ⊥
      never h = cc

  runs_quiet : (messages : List Message) (now : Phase) (times : Times) (waiting : List ℕ) (wrong : Option MessageFault) → awaits_open now.state ≡ false
      → Quiet now (runs machine now times messages waiting wrong)
  runs_quiet [] now times waiting None e =
      subst (Quiet now) (sym (runs_none machine now times waiting None))
      (record { text_is = refl; goes = λ h. record { four_is = refl; hold_is = refl; past = e; up = λ u. u } })
  runs_quiet [] now times waiting (Some fault) e =
      subst (Quiet now) (sym (runs_none machine now times waiting (Some fault))) (shut_quiet _ _ _ _)
  runs_quiet (message ∷ messages) now times waiting wrong e =
      subst (Quiet now) (sym (runs_step machine now times message messages waiting wrong))
      (by (λ next f. runs_quiet _ _ _ _ _ f) (transition_by machine now message) (goes_on machine now message))
    where
      by : ((next : Phase) → awaits_open next.state ≡ false → Quiet next (runs machine next (taken_in now.state times) messages waiting wrong))
          → (made : Made) → GoesTo now made
          → Quiet now (ran machine now times made (λ next. runs machine next (taken_in now.state times) messages waiting wrong))
      by rest (Ok next) g =
          let later = rest next.0 g.0 in
          record {
            text_is = ap (λ (z : List ℕ). z ++ (runs machine next.0 (taken_in now.state times) messages waiting wrong).text)
                (answers_none now.state e) ∙ later.text_is;
            goes = λ h. goes_then _ _ _ (g.1 e) (later.goes h);
          }
      by rest (Err why) g = shut_quiet _ _ _ _

  pub quiet_by : (now : Phase) (times : Times) (octets : List ℕ) → awaits_open now.state ≡ false → Quiet now (runs_by machine now times octets)
  quiet_by now times octets e = runs_quiet _ _ _ _ _ e

pub same_still : (a b : Phase) → still a ≡ still b → a ≡ b
same_still a b e = cc

pub closed_still : (why : Closed) (last : Phase) → closed why ≡ still last → ⊥
closed_still why last e = cc

module _ (machine : Machine) where
  -- an end past its OPEN stays past it, as it was agreed
  plays_on : (messages : List Message) (now last : Phase) (wrong : Option MessageFault) → awaits_open now.state ≡ false
      → (plays machine now messages wrong).1 ≡ still last
      → Goes now last
  plays_on [] now last None e h =
      subst (Goes now) (same_still _ _ (sym (ap (λ (z : List Update × Last). z.1) (plays_none machine now None)) ∙ h))
      (record { four_is = refl; hold_is = refl; past = e; up = λ u. u })
  plays_on [] now last (Some fault) e h =
      absurd (closed_still _ _ (sym (ap (λ (z : List Update × Last). z.1) (plays_none machine now (Some fault))) ∙ h))
  plays_on (message ∷ messages) now last wrong e h =
      by (λ next f k. plays_on _ _ _ _ f k) (transition_by machine now message) (goes_on machine now message)
      (sym (ap (λ (z : List Update × Last). z.1) (plays_step machine now message messages wrong)) ∙ h)
    where
      by : ((next : Phase) → awaits_open next.state ≡ false → (plays machine next messages wrong).1 ≡ still last → Goes next last) → (made : Made)
          → GoesTo now made
          → (going made (λ next. plays machine next messages wrong)).1 ≡ still last → Goes now last
      by rest (Ok next) k g = goes_then _ _ _ (k.1 e) (rest next.0 k.0 (sym (last_update next.1 (plays machine next.0 messages wrong)) ∙ g))
      by rest (Err why) k g = absurd (closed_still _ _ g)

  pub session_on : (now last : Phase) (octets : List ℕ) → awaits_open now.state ≡ false → (session_by machine now octets).1 ≡ still last → Goes now last
  session_on now last octets e h = plays_on _ _ _ _ e h

  -- before it none
  abbrev pub Unheld : Phase → Type 0
  Unheld now = awaits_open now.state ≡ true → now.hold ≡ 0

  pub runs_unheld : (messages : List Message) (now : Phase) (times : Times) (waiting : List ℕ) (wrong : Option MessageFault) → Unheld now
      → Unheld (runs machine now times messages waiting wrong).point.phase
  runs_unheld [] now times waiting None u =
      subst (λ (p : Phase). Unheld p) (sym (ap (λ (m : Handed). m.point.phase) (runs_none machine now times waiting None))) u
  runs_unheld [] now times waiting (Some fault) u =
      subst (λ (p : Phase). Unheld p) (sym (ap (λ (m : Handed). m.point.phase) (runs_none machine now times waiting (Some fault)))) u
  runs_unheld (message ∷ messages) now times waiting wrong u =
      subst (λ (p : Phase). Unheld p) (sym (ap (λ (m : Handed). m.point.phase) (runs_step machine now times message messages waiting wrong)))
      (by (λ next v. runs_unheld _ _ _ _ _ v) _ (goes_on machine now message))
    where
      by : ((next : Phase) → Unheld next → Unheld (runs machine next (taken_in now.state times) messages waiting wrong).point.phase) → (made : Made)
          → GoesTo now made
          → Unheld (ran machine now times made (λ next. runs machine next (taken_in now.state times) messages waiting wrong)).point.phase
      by rest (Ok next) k = rest next.0 (λ w. absurd (never (sym w ∙ k.0)))
      by rest (Err why) k = u

  -- so an end has none, or the one that the session has which comes of more octets
  pub hold_is : (now last : Phase) (octets : List ℕ) → Unheld now → (session_by machine now octets).1 ≡ still last → (now.hold ≡ 0) ⊎ (now.hold ≡ last.hold)
  hold_is now last octets u h = by (awaits_open now.state) refl
    where
      by : (b : Bool) → awaits_open now.state ≡ b → (now.hold ≡ 0) ⊎ (now.hold ≡ last.hold)
      by true e = inl (u e)
      by false e = inr (sym (session_on _ _ _ e h).hold_is)
