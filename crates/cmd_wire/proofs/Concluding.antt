-- What the clauses of a run that speaks over the wire say follows from what it does.
use Rattle.cmd_wire.proofs.Words.{List, Option, Some, ap, inl, inr, sym, subst, ℕ, ◌∙◌, ◌≡◌, ◌≢◌, ◌⊎◌, FilesStood, Happened, SinkFailed, SinkStood}
use Rattle.cmd_wire.proofs.Words.{WireStood, Told, WireEnds, Desked, Ending, Done, answers_for, Answers, Found, Stage, Stopped, status_of, Refusal}
use Rattle.cmd_wire.proofs.Words.{Limit, Outside, Rejected, AnyFailed, Concludes, Ends, HasStatusBy, IsSetUp, SessionPromises, Conversation}
use Rattle.cmd_wire.proofs.Words.{ListsDesk, TellsListing, verdict_by, never_zero}
use Rattle.cmd_wire.proofs.Statuses.{differs, due_status, early_status, late_status, never_early, none_failed, only_done, same_found, served_early}
use Rattle.cmd_wire.proofs.Statuses.{served_late}

-- no refusal of the files' ends a run with status 8
abbrev pub IsOfFiles : Refusal → Type 0
IsOfFiles refusal = (refusal ≡ Outside) ⊎ ((refusal ≡ Limit) ⊎ (refusal ≡ Rejected))

never_session : (refusal : Refusal) → IsOfFiles refusal → status_of refusal ≡ 8 → ⊥
never_session refusal (inl e) h = let at : status_of Outside ≡ 8 = ap status_of (sym e) ∙ h in absurd cc
never_session refusal (inr (inl e)) h = let at : status_of Limit ≡ 8 = ap status_of (sym e) ∙ h in absurd cc
never_session refusal (inr (inr e)) h = let at : status_of Rejected ≡ 8 = ap status_of (sym e) ∙ h in absurd cc

-- what a wire tells that tells its ends
pub told_at : (step : WireEnds → WireEnds → Type 0) {A : Type 0} {stage : Stage A} {talk : Conversation} (s : IsSetUp stage talk)
    → Told step talk.ends talk.ends_now → step s.ends s.ends_now
told_at step {talk = talk} s told =
    subst (λ (o : Option WireEnds). Told step (Some s.ends) o) s.told_now (subst (λ (o : Option WireEnds). Told step o talk.ends_now) s.told told)

module _ {A : Type 0} (stage : Stage A) (Says : A → Ending → List ℕ → Type 0) (call : Happened) (answer : ℕ) where
  -- a session that ended, of which its line or a listing was told
  pub told_line : (accepted : A) (ending : Ending) (text : List ℕ) → stage ≡ Found accepted → Says accepted ending text
      → Answers (verdict_by ending text) (SinkFailed call) call.before.written call.now.written answer → Concludes stage Says call answer
  told_line accepted ending text found says answers = inr (record {
    ending = ending;
    spoken = record { accepted = accepted; found = found; text = text; says = says };
    answers = answers_for (verdict_by ending text) (SinkFailed call) (AnyFailed call) call.before.written call.now.written answer answers (λ r. inr (inl r));
  })

  pub told_desk : (accepted : A) (desk : Desked) (ending : Ending) → stage ≡ Found accepted
      → ((text : List ℕ) → ListsDesk ending desk text → Says accepted ending text)
      → TellsListing ending desk (SinkFailed call) call.before.written call.now.written answer → Concludes stage Says call answer
  told_desk accepted desk ending found says (inl none) = inl (record { reason = inr (inl none.0); nothing = none.1 })
  told_desk accepted desk ending found says (inr told) = told_line accepted ending told.0 found (says told.0 told.1.0) told.1.1

  -- the status
  pub session_status : Concludes stage Says call answer → HasStatusBy Says stage answer ⊎ (answer ≡ 6) ⊎ ((answer ≡ 1) × AnyFailed call)
  session_status (inl early) = early_status stage (AnyFailed call) answer (λ s. HasStatusBy Says s answer) (λ refusal h. h) early.reason
  session_status (inr c) =
      late_status (AnyFailed call) (verdict_by c.ending c.spoken.text).status answer (HasStatusBy Says stage answer)
      (λ h. subst (λ (s : Stage A). HasStatusBy Says s answer) (sym c.spoken.found) (c.ending, c.spoken.text, (c.spoken.says, h))) c.answers.status_is

  -- one that no refusal of the files' has
  ended : (wanted : ℕ) → answer ≡ wanted → wanted ≢ 6 → wanted ≢ 1 → ((refusal : Refusal) → stage ≡ Stopped refusal → status_of refusal ≡ wanted → ⊥)
      → Concludes stage Says call answer → (ending : Ending) × Ends stage Says call answer ending
  ended wanted is six one none (inl early) = absurd (never_early stage (AnyFailed call) answer wanted is six one none early.reason)
  ended wanted is six one none (inr c) = (
    c.ending,
    record {
      spoken = c.spoken;
      status_is = due_status (AnyFailed call) _ answer wanted is six one c.answers.status_is;
      wrote = c.answers.whole (differs answer wanted 6 six is) (differs answer wanted 1 one is);
    },
  )

  done_so : answer ≡ 0 → Concludes stage Says call answer → Ends stage Says call answer Done
  done_so zero c =
      let e : (ending : Ending) × Ends stage Says call answer ending = ended 0 zero (λ e. absurd cc) (λ e. absurd cc) (λ refusal h e. never_zero refusal e) c in
      subst (Ends stage Says call answer) (only_done e.0 e.1.spoken.text (sym e.1.status_is ∙ zero)) e.1

  served_so : (accepted : A) → stage ≡ Found accepted → ((ending : Ending) (text : List ℕ) → Says accepted ending text → ending ≡ Done)
      → FilesStood call → SinkStood call → WireStood call → Concludes stage Says call answer → (answer ≡ 0) ⊎ (answer ≡ 6)
  served_so accepted found only f k w (inl early) = served_early stage accepted (AnyFailed call) answer found (none_failed call f k w) early.reason
  served_so accepted found only f k w (inr c) =
      served_late (AnyFailed call) (verdict_by c.ending c.spoken.text).status answer
      (ap (λ (e : Ending). (verdict_by e c.spoken.text).status)
      (only c.ending c.spoken.text (subst (λ (a : A). Says a c.ending c.spoken.text) (same_found (sym c.spoken.found ∙ found)) c.spoken.says)))
      (none_failed call f k w) c.answers.status_is

  -- what is promised
  pub promises : (talk : Conversation) (Served : Type 0) → ((refusal : Refusal) → stage ≡ Stopped refusal → IsOfFiles refusal)
      → (set_up : Served → IsSetUp stage talk)
      → ((s : Served) (ending : Ending) (text : List ℕ) → Says (set_up s).accepted ending text → ending ≡ Done)
      → Concludes stage Says call answer → SessionPromises stage Says Served call answer
  promises talk Served stops set_up only c = record {
    done = λ zero. done_so zero c;
    session = λ eight. ended 8 eight (λ e. absurd cc) (λ e. absurd cc) (λ refusal h e. never_session refusal (stops refusal h) e) c;
    served = λ s f k w. served_so (set_up s).accepted (set_up s).found (only s) f k w c;
  }
