-- How the answer of `enforce` follows from those of its stages, and from what was judged at the packets' moments.
use Rattle.cmd_enforce.proofs.Words.{◌≡◌, ◌≢◌, ◌⊎◌, inl, inr, ◌∙◌, ◌≤◌, ℕ, List, [], Option, Result, Ok, Err, refl, ap, sym, subst, IsErrAnd, Grew}
use Rattle.cmd_enforce.proofs.Words.{GrewPart, Config, Grew-refl, part_whole, part_none, End, done, limited, bad, Rose, Goes, Partly, partly_flushed}
use Rattle.cmd_enforce.proofs.Words.{goes_flush, goes_flush_part, Captured, Recorded, recorded, CaptureState, coming, CaptureReason, Held, Timed}
use Rattle.cmd_enforce.proofs.Words.{Stage, Found, Stopped, answered, status_of, and_then, HasReason, Refusal, Memory, answered_err, answers_for}
use Rattle.cmd_enforce.proofs.Words.{outside_one, rose_earlier, rose_later, accepted_with, ends_early, reason_then, IsOfPackets, always, status_at}
use Rattle.cmd_enforce.proofs.Words.{capture_stage, AnswersAt, CameTo, EndsBefore, IsUnjudged, Judged, Judging, Outcome, WroteJudged, came_lines}
use Rattle.cmd_enforce.proofs.Words.{judging, packets_of, verdict_at, EnforcesSo, Unfinished, Names, config_stage, HasVersion}
use Rattle.cmd_enforce.proofs.Words.{IsReadWhole, StandsOrWaits, tape_stage, accepted_stage, PlayerState, Stands, None, Some}
use Rattle.cmd_stages.{specs.Writing.{Finishes}, proofs.Texts.{said_by, said_front}}
use Rattle.fs_tape.specs.declared.magic.Version.TheVariants.{Two}

-- of no packets there are no lines

none_text : (held : ℕ → Held) (stage : Stage Recorded) → (verdict_at held [] stage).text ≡ []
none_text held (Found capture) = refl
none_text held (Stopped refusal) = refl

abbrev none_held : Config → Held
none_held config = record { config = config; unicast = []; flows = [] }

abbrev pub came_to_none : (config : Config) (items : List Timed) (packets : List Captured) → CameTo config items packets
came_to_none config items packets = record { held = always (none_held config); judged = []; rest = packets; parts = refl; leaves = tt }

-- no packet was judged
pub none_judged : (config : Config) (items : List Timed) (stage : Stage Recorded) (failed failed' : Type 0) (a : Option (List ℕ)) (refusal : Refusal)
    → EndsBefore stage failed refusal → (failed → failed') → AnswersAt config items stage failed' a a (status_of refusal)
none_judged config items stage failed failed' a refusal h f = record {
  came = came_to_none config items (packets_of stage);
  answers = record {
    status_is = status h;
    part = part_none a a (verdict_at (always (none_held config)) [] stage).text (Grew-refl a);
    whole = λ six one. subst (λ (text : List ℕ). Grew a a text) (sym (none_text (always (none_held config)) stage)) (Grew-refl a);
  };
  all = λ six one. all h six one;
}
  where
    status : EndsBefore stage failed refusal
        → (status_of refusal ≡ (verdict_at (always (none_held config)) [] stage).status) ⊎ (status_of refusal ≡ 6) ⊎ ((status_of refusal ≡ 1) × failed')
    status (inl e) = inl (sym (e.1 (always (none_held config))))
    status (inr (inl e)) = inr (inl (ap status_of e))
    status (inr (inr e)) = inr (inr (ap status_of e.0, f e.1))

    all : EndsBefore stage failed refusal → status_of refusal ≢ 6 → status_of refusal ≢ 1 → packets_of stage ≡ []
    all (inl e) six one = e.0
    all (inr (inl e)) six one = absurd (six (ap status_of e))
    all (inr (inr e)) six one = absurd (one (ap status_of e.0))

-- the status of want of memory, and that of a call on the outside that failed, are of no input

pub memory_of_packets : IsOfPackets 6
memory_of_packets = (λ e. absurd cc, λ e. absurd cc, λ e. absurd cc)

pub outside_of_packets : IsOfPackets 1
outside_of_packets = (λ e. absurd cc, λ e. absurd cc, λ e. absurd cc)

-- so at want of memory
pub none_by_memory : {T : Type 0} {config : Config} {items : List Timed} {stage : Stage Recorded} {failed : Type 0} {a : Option (List ℕ)}
    (result : Result T Refusal)
    → IsErrAnd result (λ e. e ≡ Memory) → AnswersAt config items stage failed a a (answered result)
none_by_memory (Ok value) is = absurd is
none_by_memory {config = config} {items = items} {stage = stage} {failed = failed} {a = a} (Err refusal) is =
    none_judged config items stage failed failed a refusal (inr (inl is)) (λ f. f)

at_for : (config : Config) (items : List Timed) (stage : Stage Recorded) (failed failed' : Type 0) (before now : Option (List ℕ)) (answer : ℕ)
    → AnswersAt config items stage failed before now answer → (failed → failed') → AnswersAt config items stage failed' before now answer
at_for config items stage failed failed' before now answer a f = record {
  came = a.came;
  answers = answers_for (verdict_at a.came.held a.came.judged stage) failed failed' before now answer a.answers f;
  all = a.all;
}

-- what judging the packets did and what writing out did, as the answer of the whole

-- Behind these packets judging ended as is due, or memory was wanting, or a call on the outside failed.
abbrev EndsBehind : (work : Judging) → Outcome → CameTo work.config work.items work.all.0 → Type 0 → (answer : ℕ) → Type 0
EndsBehind work now came failed answer =
    ((answer ≡ status_at work.all.1) × (came.rest ≡ []) × Goes work.before now.written [] now.pending (came_lines came))
    ⊎ ((answer ≡ 6) × IsUnjudged came.rest now.left × Goes work.before now.written [] now.pending (came_lines came))
    ⊎ ((answer ≡ 1) × failed × Partly work.before now.written [] now.pending (came_lines came))

ends_behind : {T : Type 0} (work : Judging) (now : Outcome) (failed : Type 0) (result : Result T Refusal) → work.pending ≡ [] → Judged work now failed result
    → (came : CameTo work.config work.items work.all.0) × EndsBehind work now came failed (answered result)
ends_behind {T} work now failed result e judged =
    by result (subst (λ (p : List ℕ). Judged (judging work.config work.items work.all work.before p) now failed result) e judged)
  where
    by : (r : Result T Refusal) → Judged (judging work.config work.items work.all work.before []) now failed r
        → (came : CameTo work.config work.items work.all.0) × EndsBehind work now came failed (answered r)
    by (Ok value) w = (w.0, inl (sym (ap status_at w.2), w.1, w.3))
    by (Err refusal) (came, inl h) = (came, inl (sym h.0, h.1, h.2))
    by (Err refusal) (came, inr (inl h)) = (came, inr (inl (ap status_of h.0, h.1, h.2)))
    by (Err refusal) (came, inr (inr h)) = (came, inr (inr (ap status_of h.0, h.1, h.2)))

-- a call on the outside failed
part_lines : (config : Config) (items : List Timed) (found : List Captured × End CaptureReason) (failed : Type 0) (before now : Option (List ℕ))
    (answer : ℕ) (came : CameTo config items found.0)
    → answer ≡ 1 → failed → GrewPart before now (came_lines came) → AnswersAt config items (Found (recorded found)) failed before now answer
part_lines config items found failed before now answer came e f part = record {
  came = came;
  answers = said_front (status_at found.1) (came_lines came) failed before now answer e f part;
  all = λ six one. absurd (one e);
}

module _ {T : Type 0} (work : Judging) (mid : Outcome) (now : Option (List ℕ)) (failed rose : Type 0) (judged result : Result T Refusal)
    (e : work.pending ≡ []) (w : Judged work mid failed judged) (finishes : Finishes mid.pending rose mid.written now judged result) where
  -- the packets that were judged have their lines, and the answer is as it is due
  pub moments_finished : (other : Type 0) → (failed → other) → (rose → other)
      → AnswersAt work.config work.items (Found (recorded work.all)) other work.before now (answered result)
  moments_finished other f g = let b = ends_behind work mid failed judged e w in by b.0 b.1 finishes
    where
      whole : (came : CameTo work.config work.items work.all.0) → EndsBehind work mid came failed (answered judged) → Grew mid.written now mid.pending
          → AnswersAt work.config work.items (Found (recorded work.all)) other work.before now (answered judged)
      whole came (inl h) grew = record {
        came = came;
        answers = said_by (status_at work.all.1) (came_lines came) other work.before now (answered judged) (inl h.0) (goes_flush now h.2 grew);
        all = λ six one. h.1;
      }
      whole came (inr (inl h)) grew = record {
        came = came;
        answers = said_by (status_at work.all.1) (came_lines came) other work.before now (answered judged) (inr (inl h.0)) (goes_flush now h.2 grew);
        all = λ six one. absurd (six h.0);
      }
      whole came (inr (inr h)) grew =
          part_lines work.config work.items work.all other work.before now (answered judged) came h.0 (f h.1)
          (partly_flushed work.before mid.written now mid.pending (came_lines came) h.2 (part_whole mid.written now mid.pending grew))

      front : (came : CameTo work.config work.items work.all.0) → EndsBehind work mid came failed (answered judged) → GrewPart mid.written now mid.pending
          → GrewPart work.before now (came_lines came)
      front came (inl h) part = goes_flush_part now h.2 part
      front came (inr (inl h)) part = goes_flush_part now h.2 part
      front came (inr (inr h)) part = partly_flushed work.before mid.written now mid.pending (came_lines came) h.2 part

      by : (came : CameTo work.config work.items work.all.0) → EndsBehind work mid came failed (answered judged)
          → Finishes mid.pending rose mid.written now judged result
          → AnswersAt work.config work.items (Found (recorded work.all)) other work.before now (answered result)
      by came behind (inl h) =
          subst (λ (r : Result T Refusal). AnswersAt work.config work.items (Found (recorded work.all)) other work.before now (answered r)) (sym h.0)
          (whole came behind h.1)
      by came behind (inr h) =
          part_lines work.config work.items work.all other work.before now (answered result) came (outside_one result h.0) (g h.1) (front came behind h.2)

  -- at want of memory those that were judged were written out
  pub wrote_judged : answered result ≡ 6 → WroteJudged work.config work.items work.all.0 mid.left work.before now
  wrote_judged six = let b = ends_behind work mid failed judged e w in by b.0 b.1 finishes
    where
      of_end : (end : End CaptureReason) → 6 ≡ status_at end → ⊥
      of_end done h = absurd cc
      of_end limited h = absurd cc
      of_end (bad reason place) h = absurd cc

      by : (came : CameTo work.config work.items work.all.0) → EndsBehind work mid came failed (answered judged)
          → Finishes mid.pending rose mid.written now judged result
          → WroteJudged work.config work.items work.all.0 mid.left work.before now
      by came (inl h) (inl done_so) = absurd (of_end work.all.1 (sym six ∙ ap answered done_so.0 ∙ h.0))
      by came (inr (inl h)) (inl done_so) = record { came = came; unjudged = h.1; wrote = goes_flush now h.2 done_so.1 }
      by came (inr (inr h)) (inl done_so) = let one : answered result ≡ 1 = ap answered done_so.0 ∙ h.0 in absurd cc
      by came behind (inr h) = let one : answered result ≡ 1 = outside_one result h.0 in absurd cc

-- the same under an equal configuration
pub answers_under : {config config' : Config} {items : List Timed} {stage : Stage Recorded} {failed : Type 0} {before now : Option (List ℕ)} {answer : ℕ}
    → config' ≡ config → AnswersAt config' items stage failed before now answer → AnswersAt config items stage failed before now answer
answers_under {items = items} {stage = stage} {failed = failed} {before = before} {now = now} {answer = answer} e a =
    subst (λ (c : Config). AnswersAt c items stage failed before now answer) e a

-- of a capture that was opened so
pub answers_opened : {config config' : Config} {items : List Timed} {stage : Stage Recorded} {found : Recorded} {failed failed' :
    Type 0} {before now : Option (List ℕ)} {answer : ℕ}
    → stage ≡ Found found → config' ≡ config → AnswersAt config' items (Found found) failed before now answer → (failed → failed')
    → AnswersAt config items stage failed' before now answer
answers_opened {config} {items = items} {stage = stage} {found = found} {failed = failed} {failed' = failed'} {before = before} {now = now} {answer =
    answer} e same a f =
    subst (λ (s : Stage Recorded). AnswersAt config items s failed' before now answer) (sym e)
    (at_for config items (Found found) failed failed' before now answer (answers_under same a) f)

-- a count that rose in a part rose in the whole
pub rose_wider : (f f1 f2 s s1 s2 : ℕ) → f ≤ f1 → s1 ≤ s2 → Rose f1 f2 ⊎ Rose s s1 → Rose f f2 ⊎ Rose s s2
rose_wider f f1 f2 s s1 s2 l m (inl r) = inl (rose_earlier f f1 f2 l r)
rose_wider f f1 f2 s s1 s2 l m (inr r) = inr (rose_later s s1 s2 r m)

-- at want of memory

-- no packet was read
abbrev pub wrote_none : (config : Config) (items : List Timed) (packets left : List Captured) (before now : Option (List ℕ)) → packets ≡ left
    → Grew before now []
    → WroteJudged config items packets left before now
wrote_none config items packets left before now e g = record { came = came_to_none config items packets; unjudged = inl e; wrote = g }

-- the same under an equal configuration, of equal packets
pub wrote_under : {config config' : Config} {items : List Timed} {packets packets' left : List Captured} {before now : Option (List ℕ)}
    → config' ≡ config → packets' ≡ packets → WroteJudged config' items packets' left before now → WroteJudged config items packets left before now
wrote_under {config} {items = items} {packets' = packets'} {left = left} {before = before} {now = now} e p w =
    subst (λ (l : List Captured). WroteJudged config items l left before now) p (subst (λ (c : Config). WroteJudged c items packets' left before now) e w)

-- the configuration ended the run
pub config_ends : {T : Type 0} (limit : ℕ) (holds : Names) (config tape capture : List ℕ) (failed failed' : Type 0) (a : Option (List ℕ))
    (result : Result T Refusal) (refusal : Refusal)
    → IsErrAnd result (λ e. e ≡ refusal) → HasReason (config_stage limit holds config) failed refusal → (failed → failed')
    → EnforcesSo limit holds config tape capture failed' a a (answered result)
config_ends limit holds config tape capture failed failed' a result refusal is h f =
    answered_err (EnforcesSo limit holds config tape capture failed' a a) result refusal is
    (inl (ends_early (accepted_stage limit holds config tape) failed failed' a refusal
    (reason_then (config_stage limit holds config) (λ accepted. and_then (tape_stage accepted limit holds tape) (λ items. Found (accepted, items)))
    failed refusal h) f))

-- the tape ended the run
pub tape_ends : {T : Type 0} (limit : ℕ) (holds holds' : Names) (config tape capture : List ℕ) (accepted : Config) (failed failed' : Type 0)
    (a : Option (List ℕ)) (result : Result T Refusal) (refusal : Refusal)
    → IsErrAnd result (λ e. e ≡ refusal) → config_stage limit holds config ≡ Found accepted → holds' ≡ holds
    → HasReason (tape_stage accepted limit holds' tape) failed refusal
    → (failed → failed') → EnforcesSo limit holds config tape capture failed' a a (answered result)
tape_ends limit holds holds' config tape capture accepted failed failed' a result refusal is e same h f =
    let told : HasReason (tape_stage accepted limit holds tape) failed refusal =
    subst (λ (names : Names). HasReason (tape_stage accepted limit names tape) failed refusal) same h in
    let whole : HasReason (accepted_stage limit holds config tape) failed refusal =
    subst (λ (s : Stage (Config × List Timed)). HasReason s failed refusal) (sym (accepted_with limit holds config tape accepted e))
    (reason_then (tape_stage accepted limit holds tape) (λ items. Found (accepted, items)) failed refusal told) in
    answered_err (EnforcesSo limit holds config tape capture failed' a a) result refusal is
    (inl (ends_early (accepted_stage limit holds config tape) failed failed' a refusal whole f))

pub found_in : {limit : ℕ} {holds tape_holds : Names} {tape : List ℕ} {accepted : Config} {whole : Option PlayerState} → tape_holds ≡ holds
    → (w : IsReadWhole accepted limit tape_holds tape whole) → tape_stage accepted limit holds tape ≡ Found w.items
found_in {limit} {tape = tape} {accepted = accepted} same w =
    subst (λ (names : Names). tape_stage accepted limit names tape ≡ Found w.items) same w.found

-- the capture was judged, by what the tape holds at the packets' moments
pub answers_so : {tape_holds : Names} {accepted : Config} {whole : Option PlayerState}
    (limit : ℕ) (holds capture_holds : Names) (config tape capture : List ℕ) (failed : Type 0) (before now : Option (List ℕ)) (answer : ℕ)
    → config_stage limit holds config ≡ Found accepted → tape_holds ≡ holds → capture_holds ≡ tape_holds
    → (w : IsReadWhole accepted limit tape_holds tape whole)
    → AnswersAt accepted w.items (capture_stage limit capture_holds capture) failed before now answer
    → EnforcesSo limit holds config tape capture failed before now answer
answers_so {tape_holds} {accepted} limit holds capture_holds config tape capture failed before now answer e same same' w a =
    inr (record {
      accepted = accepted;
      items = w.items;
      found = accepted_with limit holds config tape accepted e
          ∙ ap (λ (s : Stage (List Timed)). and_then s (λ items. Found (accepted, items))) (found_in same w);
      judged = subst (λ (names : Names). AnswersAt accepted w.items (capture_stage limit names capture) failed before now answer) (same' ∙ same) a;
    })

-- at want of memory after configuration and tape
pub unfinished_so : {tape_holds : Names} {accepted : Config} {whole : Option PlayerState}
    (limit : ℕ) (holds capture_holds : Names) (config tape capture left : List ℕ) (before now : Option (List ℕ)) (reader : CaptureState)
    → config_stage limit holds config ≡ Found accepted → tape_holds ≡ holds → capture_holds ≡ tape_holds
    → (w : IsReadWhole accepted limit tape_holds tape whole)
    → (judged : WroteJudged accepted w.items (packets_of (capture_stage limit capture_holds capture)) (coming reader left).0 before now)
    → ((HasVersion limit holds tape Two → ⊥) → judged.came.judged ≡ [])
    → Unfinished limit holds config tape capture left before now
unfinished_so {tape_holds} {accepted} limit holds capture_holds config tape capture left before now reader e same same' w judged none =
    let both = subst (λ (names : Names).
    (judged : WroteJudged accepted w.items (packets_of (capture_stage limit names capture)) (coming reader left).0 before now)
    × ((HasVersion limit holds tape Two → ⊥) → judged.came.judged ≡ [])) (same' ∙ same) (judged, none) in
    record {
      accepted = accepted;
      items = w.items;
      found = accepted_with limit holds config tape accepted e
          ∙ ap (λ (s : Stage (List Timed)). and_then s (λ items. Found (accepted, items))) (found_in same w);
      reader = reader;
      judged = both.0;
      none = both.1;
    }

-- all packets of a capture that was opened so are to come
pub all_to_come : (stage : Stage Recorded) (reader : CaptureState) (before now : List ℕ) → stage ≡ Found (recorded (coming reader before)) → now ≡ before
    → packets_of stage ≡ (coming reader now).0
all_to_come stage reader before now e same = ap packets_of e ∙ ap (λ (octets : List ℕ). (coming reader octets).0) (sym same)

-- no status of a capture that was judged is that of a tape's fault
pub never_tape : {A : Type 0} (config : Config) (items : List Timed) (found : Recorded) (failed : Type 0) (before now : Option (List ℕ)) (answer : ℕ)
    → AnswersAt config items (Found found) failed before now answer → answer ≡ 4 → A
never_tape {A} config items found failed before now answer a four = by a.answers.status_is
  where
    of_end : (end : End CaptureReason) → 4 ≡ status_at end → A
    of_end done h = absurd cc
    of_end limited h = absurd cc
    of_end (bad reason place) h = absurd cc

    by : (answer ≡ status_at found.end) ⊎ (answer ≡ 6) ⊎ ((answer ≡ 1) × failed) → A
    by (inl h) = of_end found.end (sym four ∙ h)
    by (inr (inl h)) = let six : answer ≡ 6 = h in absurd cc
    by (inr (inr h)) = let one : answer ≡ 1 = h.0 in absurd cc

-- a tape that was read whole is of the second version, or was played

pub is_second : {limit : ℕ} {holds holds' : Names} {config : Config} {tape : List ℕ} {whole : Option PlayerState}
    → holds' ≡ holds → IsReadWhole config limit holds' tape whole → whole ≡ None → HasVersion limit holds tape Two
is_second {limit} {holds} {holds'} {config} {tape} same w none =
    subst (λ (names : Names). HasVersion limit names tape Two) same (subst (StandsOrWaits limit holds' tape w.items) none w.stands)

pub whole_played : {limit : ℕ} {holds : Names} {config : Config} {tape : List ℕ} {whole : Option PlayerState} {player : PlayerState}
    → (w : IsReadWhole config limit holds tape whole) → whole ≡ Some player → (left : List ℕ) → Stands w.items 0 player left
whole_played {limit} {holds} {config} {tape} w some = subst (StandsOrWaits limit holds tape w.items) some w.stands
