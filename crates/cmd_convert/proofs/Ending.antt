-- How the answer of `convert` follows from what its parts did.
use Rattle.cmd_convert.proofs.Words.{◌≡◌, ◌⊎◌, inl, inr, ◌≤◌, ◌∙◌, ◌++◌, ℕ, List, [], Option, Some, None, Result, Ok, Err, refl, ap, sym, subst, Rose}
use Rattle.cmd_convert.proofs.Words.{Config, Goes, goes_flush, goes_flush_part, partly_flushed, DumpState, IsBegun, coming, heard_to_come, DumpReason}
use Rattle.cmd_convert.proofs.Words.{End, done, Refusal, Outside, answers_for, answers_memory, answers_outside, outside_one, rose_earlier, rose_later}
use Rattle.cmd_convert.proofs.Words.{tape_text, Two, Life, lives_of, no_lives, items_from, Breaks, ConvertsSo, IsAtRecord, dump_stage, status_at}
use Rattle.cmd_convert.proofs.Words.{verdict_of}
use Rattle.std.specs.Result.{MatchResult}
use Rattle.fs_base.{specs.Sink.{Grew, GrewPart}, proofs.Grew.{Grew-refl, part_whole, part_none}}
use Rattle.cmd_stages.specs.Load.{Names, config_stage}
use Rattle.cmd_stages.specs.Refusal.{Answers, Found, HasReason, Stage, Verdict, answered, or_stop, status_of, verdict_with}
use Rattle.cmd_stages.specs.Writing.{Finishes}
use Rattle.cmd_stages.proofs.Texts.{said_by, said_front}

-- before the dump is read

answers_stopped : (config : Config) (limit : ℕ) (stage : Stage (List ℕ)) (failed : Type 0) (a : Option (List ℕ)) (refusal : Refusal)
    → HasReason stage failed refusal → Answers (verdict_of config limit stage) failed a a (status_of refusal)
answers_stopped config limit stage failed a refusal (inl h) =
    subst (λ (s : Stage (List ℕ)). Answers (verdict_of config limit s) failed a a (status_of refusal)) (sym h)
    (record { status_is = inl refl; part = part_none a a [] (Grew-refl a); whole = λ six one. Grew-refl a })
answers_stopped config limit stage failed a refusal (inr (inl e)) = answers_memory (verdict_of config limit stage) failed a refusal e
answers_stopped config limit stage failed a refusal (inr (inr h)) = answers_outside (verdict_of config limit stage) failed a refusal h.0 h.1

module _ (limit : ℕ) (holds : Names) (config dump : List ℕ) (accepted : Config) where
  pub dump_ends : (names : Names) (failed failed' : Type 0) (a : Option (List ℕ)) (refusal : Refusal)
      → config_stage limit holds config ≡ Found accepted → names ≡ holds → HasReason (dump_stage names dump) failed refusal → (failed → failed')
      → ConvertsSo limit holds config dump failed' a a (status_of refusal)
  dump_ends names failed failed' a refusal found same h f =
      inr (record {
        accepted = accepted;
        found = found;
        answers = answers_for (verdict_of accepted limit (dump_stage holds dump)) failed failed' a a (status_of refusal)
            (answers_stopped accepted limit (dump_stage holds dump) failed a refusal
            (subst (λ (n : Names). HasReason (dump_stage n dump) failed refusal) same h)) f;
      })

-- what it is to answer and write, where the dump was opened
pub read_verdict : (config accepted : Config) (limit : ℕ) (names : Names) (name : List ℕ) (left : ℕ → List ℕ) (dump : DumpState) (lives : List Life)
    → config ≡ accepted → names name ≡ Some (left 1) → IsBegun 1 limit [] dump → ((peer : ℕ) → lives_of lives peer ≡ None)
    → verdict_of accepted limit (dump_stage names name)
    ≡ verdict_with (status_at (coming config dump (left dump.slot)).1)
    (tape_text Two (items_from config (lives_of lives) (coming config dump (left dump.slot)).0))
read_verdict config accepted limit names name left dump lives same h b down =
    ap (λ (c : Option (List ℕ)). verdict_of accepted limit (or_stop Outside c)) h
    ∙ (λ i. verdict_with
    (status_at (heard_to_come (sym same i).peers (sym b.limit_is i) (sym b.place_is i) (sym b.moment_is i) (sym b.back_is i ++ left (sym b.slot_is i))).1)
    (tape_text Two (items_from (sym same i) (sym lives_are i)
    (heard_to_come (sym same i).peers (sym b.limit_is i) (sym b.place_is i) (sym b.moment_is i) (sym b.back_is i ++ left (sym b.slot_is i))).0)))
  where
    lives_are : lives_of lives ≡ no_lives
    lives_are i peer = down peer i

-- What converting did, before what is pending is written out: the whole text went on, or converting broke off.
abbrev Went : (end : End DumpReason) (before mid : Option (List ℕ)) (first pending text : List ℕ) (failed : Type 0) → {T : Type 0} → Result T Refusal → Type 0
Went end before mid first pending text failed result =
    MatchResult result (λ _. (end ≡ done) × Goes before mid first pending text) (Breaks end before mid first pending text failed)

-- what is pending was written out
flushed : {T : Type 0} (end : End DumpReason) (before mid now : Option (List ℕ)) (pending text : List ℕ) (failed : Type 0) (result : Result T Refusal)
    → Went end before mid [] pending text failed result → Grew mid now pending
    → Answers (verdict_with (status_at end) text) failed before now (answered result)
flushed end before mid now pending text failed (Ok value) went grew =
    said_by (status_at end) text failed before now 0 (inl (sym (ap status_at went.0))) (goes_flush now went.1 grew)
flushed end before mid now pending text failed (Err refusal) (inl h) grew =
    said_by (status_at end) text failed before now (status_of refusal) (inl (sym h.0)) (goes_flush now h.1 grew)
flushed end before mid now pending text failed (Err refusal) (inr h) grew =
    said_front (status_at end) text failed before now (status_of refusal) (ap status_of h.0) h.1.0
    (partly_flushed before mid now pending text h.1.1 (part_whole mid now pending grew))

-- or couldn't be
front : {T : Type 0} (end : End DumpReason) (before mid now : Option (List ℕ)) (pending text : List ℕ) (failed : Type 0) (result : Result T Refusal)
    → Went end before mid [] pending text failed result → GrewPart mid now pending → GrewPart before now text
front end before mid now pending text failed (Ok value) w part = goes_flush_part now w.1 part
front end before mid now pending text failed (Err cause) (inl h) part = goes_flush_part now h.1 part
front end before mid now pending text failed (Err cause) (inr h) part = partly_flushed before mid now pending text h.1.1 part

-- the dump was converted, and what is pending was written out, or couldn't be
module _ (limit : ℕ) (holds names : Names) (config dump : List ℕ) (accepted : Config) (end : End DumpReason) (text first pending : List ℕ)
    (before mid now : Option (List ℕ)) (f f1 f2 s s1 s2 : ℕ) where
  converts_so : (answer : ℕ) → config_stage limit holds config ≡ Found accepted → names ≡ holds
      → verdict_of accepted limit (dump_stage names dump) ≡ verdict_with (status_at end) text
      → Answers (verdict_with (status_at end) text) (Rose f f2 ⊎ Rose s s2) before now answer
      → ConvertsSo limit holds config dump (Rose f f2 ⊎ Rose s s2) before now answer
  converts_so answer found same e a =
      inr (record {
        accepted = accepted;
        found = found;
        answers =
            subst (λ (n : Names). Answers (verdict_of accepted limit (dump_stage n dump)) (Rose f f2 ⊎ Rose s s2) before now answer) same
            (subst (λ (v : Verdict). Answers v (Rose f f2 ⊎ Rose s s2) before now answer) (sym e) a);
      })

  pub finished : {T : Type 0} (converted result : Result T Refusal)
      → config_stage limit holds config ≡ Found accepted → names ≡ holds
      → verdict_of accepted limit (dump_stage names dump) ≡ verdict_with (status_at end) text → first ≡ []
      → MatchResult converted (λ _. (end ≡ done) × Goes before mid first pending text) (Breaks end before mid first pending text (Rose f1 f2 ⊎ Rose s s1))
      → f ≤ f1 → s ≤ s1 → s1 ≤ s2 → Finishes pending (Rose s1 s2) mid now converted result
      → ConvertsSo limit holds config dump (Rose f f2 ⊎ Rose s s2) before now (answered result)
  finished {T} converted result found same e none w l m n finishes = converts_so (answered result) found same e (by finishes)
    where
      went : Went end before mid [] pending text (Rose f1 f2 ⊎ Rose s s1) converted
      went = subst (λ (p : List ℕ). Went end before mid p pending text (Rose f1 f2 ⊎ Rose s s1) converted) none w

      wider : Rose f1 f2 ⊎ Rose s s1 → Rose f f2 ⊎ Rose s s2
      wider (inl r) = inl (rose_earlier f f1 f2 l r)
      wider (inr r) = inr (rose_later s s1 s2 r n)

      by : Finishes pending (Rose s1 s2) mid now converted result
          → Answers (verdict_with (status_at end) text) (Rose f f2 ⊎ Rose s s2) before now (answered result)
      by (inl h) =
          subst (λ (r : Result T Refusal). Answers (verdict_with (status_at end) text) (Rose f f2 ⊎ Rose s s2) before now (answered r)) (sym h.0)
          (answers_for (verdict_with (status_at end) text) (Rose f1 f2 ⊎ Rose s s1) (Rose f f2 ⊎ Rose s s2) before now (answered converted)
          (flushed end before mid now pending text (Rose f1 f2 ⊎ Rose s s1) converted went h.1) wider)
      by (inr h) =
          said_front (status_at end) text (Rose f f2 ⊎ Rose s s2) before now (answered result) (outside_one result h.0) (inr (rose_earlier s s1 s2 m h.1))
          (front end before mid now pending text (Rose f1 f2 ⊎ Rose s s1) converted went h.2)

-- no status of a dump that was opened is that of a configuration, or of want of memory

pub never_quiet : {A : Type 0} (status : ℕ) → IsAtRecord status → (status ≡ 3) ⊎ (status ≡ 6) → A
never_quiet status h (inl e) = absurd (h.1 e)
never_quiet status h (inr e) = absurd (h.2 e)

pub outside_quiet : {A : Type 0} (status : ℕ) → status ≡ 1 → (status ≡ 3) ⊎ (status ≡ 6) → A
outside_quiet status one (inl e) = absurd cc
outside_quiet status one (inr e) = absurd cc
