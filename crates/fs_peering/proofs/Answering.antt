-- What the machine of an announcing end answers to the OPEN: a KEEPALIVE.
use Rattle.fs_peering.proofs.Words.{Closed, Config, Handed, Machine, Message, MessageFault, Needs, NoFamily, Open, Phase, State, Times, Update}
use Rattle.fs_peering.proofs.Words.{WaitKeep, WaitOpen, announcer, first_message, keepalive_to, message_text, not_taken, notice_of}
use Rattle.fs_peering.proofs.Words.{notified, open_of, opened, phase, rest_step, runs_by, step_at, step_by, stops, taken, taken_in, takes}
use Rattle.fs_peering.proofs.Words.{transition_at, transition_by, wrong_at, ◌≡◌, ◌==◌, ◌⊎◌, inl, inr, ℕ, List, [], ◌++◌, Bool, true, false}
use Rattle.fs_peering.proofs.Words.{if◌then◌else◌, min, Option, Some, None, Result, Ok, Err, refl, ap, sym, ◌∙◌, subst, append-nil, arith, nat_tests}
use Rattle.fs_peering.proofs.Words.{runs_stops, runs_takes, runs_waits, TookOpen}
use Rattle.fs_peering.proofs.Phases.{Quiet, awaits_open, quiet_by, silent}

abbrev Made : Type 0
Made = Result (Phase × Option Update) Closed

module _ (config : Config) (needs : Needs) where
  abbrev machine : Machine
  machine = announcer config needs

  -- At the OPEN: it still waits for it, or has taken it and answered; a closing may come before or behind that.
  pub record Waits (octets : List ℕ) (now : Phase) (made : Handed) : Type 0 where
    pub text_is : made.text ≡ []
    pub waiting_is : made.point.waiting ≡ octets
    pub phase_is : made.point.phase ≡ now

  pub record Takes (octets : List ℕ) (made : Handed) : Type 0 where
    pub text_is : made.text ≡ message_text 4 []
    pub past : made.point.closed ≡ None → awaits_open made.point.phase.state ≡ false
    pub took : made.point.closed ≡ None → TookOpen config made.point.phase.four octets

  pub record Shuts (made : Handed) : Type 0 where
    pub text_is : made.text ≡ []
    pub why : Closed
    pub closed_is : made.point.closed ≡ Some why

  abbrev pub Opens : (octets : List ℕ) → Phase → Handed → Type 0
  Opens octets now made = Waits octets now made ⊎ (Takes octets made ⊎ Shuts made)

  -- of an OPEN that was taken
  abbrev OpenOf : Phase → Message → Made → Type 0
  OpenOf now message (Ok next) =
      (message.kind ≡ 1) × ((found : Open)
      × ((open_of config.local_as message.body ≡ Ok found) × ((next.0.four ≡ found.four) × (awaits_open next.0.state ≡ false))))
  OpenOf now message (Err why) = Unit {0}

  is_open : (now : Phase) (message : Message) → now.state ≡ WaitOpen → OpenOf now message (transition_by machine now message)
  is_open now message e =
      subst (λ (s : State). OpenOf now message (if message.kind == 3 then Err (notified (notice_of message.body))
      else transition_at machine s now.four now.hold message)) (sym e)
      (at (message.kind == 3) (message.kind == 1) refl (open_of config.local_as message.body) refl)
    where
      one : (n : ℕ) → (n == 1) ≡ true → n ≡ 1
      one n h = grind (arith, nat_tests, h)

      found_open : (b : Bool) (found : Open) → (message.kind == 1) ≡ true → open_of config.local_as message.body ≡ Ok found
          → OpenOf now message (if b then Err NoFamily else taken (phase WaitKeep found.four (min config.hold_time found.hold_time)) None)
      found_open true found k r = tt
      found_open false found k r = (one _ k, (found, (r, (refl, refl))))

      read : (r : Result Open MessageFault) → (message.kind == 1) ≡ true → open_of config.local_as message.body ≡ r → OpenOf now message (opened machine r)
      read (Ok found) k e = found_open _ _ k e
      read (Err fault) k e = tt

      at : (a b : Bool) → (message.kind == 1) ≡ b → (r : Result Open MessageFault) → open_of config.local_as message.body ≡ r
          → OpenOf now message (if a then Err (notified (notice_of message.body)) else if b then opened machine r else not_taken)
      at true b k r h = tt
      at false true k r h = read _ k h
      at false false k r h = tt

  pub opens_by : (now : Phase) (times : Times) (octets : List ℕ) → now.state ≡ WaitOpen → Opens octets now (runs_by machine now times octets)
  opens_by now times octets e = by (first_message octets) refl
    where
      whole : octets ++ [] ≡ octets
      whole = append-nil octets

      shut : (why : Closed) → step_by machine now octets ≡ stops why → Opens octets now (runs_by machine now times octets)
      shut why h =
          subst (Opens octets now) (sym (ap (runs_by machine now times) (sym whole) ∙ runs_stops machine now times why octets [] h))
          (inr (inr (record { text_is = silent _; why = why; closed_is = refl })))

      none : first_message octets ≡ None → (wrong : Option MessageFault) → wrong_at octets ≡ wrong → Opens octets now (runs_by machine now times octets)
      none f None w =
          subst (Opens octets now) (sym (runs_waits machine now times octets (ap (λ (o : Option (Message × List ℕ)). elim o [
            | Some found ↦ step_at (transition_by machine now found.0) found.1
            | None ↦ rest_step (wrong_at octets)
          ]) f ∙ ap rest_step w))) (inl (record { text_is = refl; waiting_is = refl; phase_is = refl }))
      none f (Some fault) w = shut _ (ap (λ (o : Option (Message × List ℕ)). elim o [
        | Some found ↦ step_at (transition_by machine now found.0) found.1
        | None ↦ rest_step (wrong_at octets)
      ]) f ∙ ap rest_step w)

      took : (found : Message × List ℕ) → first_message octets ≡ Some found → (made : Made) → transition_by machine now found.0 ≡ made → OpenOf now found.0 made
          → Opens octets now (runs_by machine now times octets)
      took found f (Err why) t o = shut _ (ap (λ (x : Option (Message × List ℕ)). elim x [
        | Some found ↦ step_at (transition_by machine now found.0) found.1
        | None ↦ rest_step (wrong_at octets)
      ]) f ∙ ap (λ (m : Made). step_at m found.1) t)
      took found f (Ok next) t o =
          let step : step_by machine now octets ≡ takes next.0 next.1 found.1 =
          ap (λ (x : Option (Message × List ℕ)). elim x [
            | Some found ↦ step_at (transition_by machine now found.0) found.1
            | None ↦ rest_step (wrong_at octets)
          ]) f ∙ ap (λ (m : Made). step_at m found.1) t in
          let later : Handed = runs_by machine next.0 (taken_in now.state times) (found.1 ++ []) in
          let quiet : Quiet config needs next.0 later = quiet_by config needs _ _ _ o.1.1.1.1 in
          subst (Opens octets now) (sym (ap (runs_by machine now times) (sym whole) ∙ runs_takes machine now next.0 times next.1 octets found.1 [] step))
          (inr (inl (record {
            text_is = ap (λ (s : State). keepalive_to s ++ later.text) e ∙ ap (λ (z : List ℕ). message_text 4 [] ++ z) quiet.text_is
                ∙ append-nil (message_text 4 []);
            past = λ h. (quiet.goes h).past;
            took = λ h. record {
              message = found.0;
              behind = found.1;
              first = f;
              kind_is = o.0;
              found = o.1.0;
              read = o.1.1.0;
              four_is = (quiet.goes h).four_is ∙ o.1.1.1.0;
            };
          })))

      by : (x : Option (Message × List ℕ)) → first_message octets ≡ x → Opens octets now (runs_by machine now times octets)
      by None f = none f _ refl
      by (Some found) f = took _ f _ refl (is_open _ found.0 e)
