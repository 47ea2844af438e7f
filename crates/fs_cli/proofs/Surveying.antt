-- How the answer of a survey follows from those of its stages.
use Rattle.fs_cli.proofs.Words.{◌≡◌, ◌≢◌, ◌⊎◌, inl, inr, ◌∙◌, ℕ, List, [], Option, Result, Ok, Err, refl, ap, sym, subst, Grew, GrewPart, Config}
use Rattle.fs_cli.proofs.Words.{Grew-refl, Timed, Names, config_stage, tape_stage, IsPlayed, untimed, answered, Answers, verdict_with, Stage, Found}
use Rattle.fs_cli.proofs.Words.{and_then, status_of, HasReason, Fails, Writes, Refusal, Outside, Rejected, Tape, Capture, Dump, Memory, Limit}
use Rattle.fs_cli.proofs.Words.{Session, take_nothing, accepted_with, fails_for, said_by, said_partly, said_so, said_whole, Text, stopped_text}
use Rattle.fs_cli.proofs.Words.{ListsSo, SaysOf}
use Rattle.std.specs.Result.{IsErrAnd}
use Rattle.fs_desk.{specs.Desk.{Desked}, proofs.Leaves.{played_leaves}}

-- of no other fault than a tape's anything is said
pub nothing_said : (refusal : Refusal) → status_of refusal ≢ 4 → stopped_text refusal ≡ []
nothing_said Outside n = refl
nothing_said Rejected n = refl
nothing_said (Tape reason place) n = absurd (n refl)
nothing_said Capture n = refl
nothing_said Dump n = refl
nothing_said Memory n = refl
nothing_said Limit n = refl
nothing_said Session n = refl

-- the configuration ended the run
pub config_unlisted : (survey : Text) (limit : ℕ) (holds : Names) (config tape : List ℕ) (failed failed' : Type 0) (a : Option (List ℕ)) (refusal : Refusal)
    → HasReason (config_stage limit holds config) failed refusal → status_of refusal ≢ 4 → (failed → failed')
    → ListsSo survey limit holds config tape failed' a a (status_of refusal)
config_unlisted survey limit holds config tape failed failed' a refusal (inl h) n f =
    inl (
      refusal,
      ap (λ (s : Stage Config). and_then s (λ accepted. and_then (tape_stage accepted limit holds tape) (λ items. Found (accepted, items)))) h,
      said_whole (status_of refusal) (stopped_text refusal) failed' a a (subst (λ (t : List ℕ). Grew a a t) (sym (nothing_said refusal n)) (Grew-refl a)),
    )
config_unlisted survey limit holds config tape failed failed' a refusal (inr (inl h)) n f = inr (inl (inl (ap status_of h), Grew-refl a))
config_unlisted survey limit holds config tape failed failed' a refusal (inr (inr h)) n f = inr (inl (inr (ap status_of h.0, f h.1), Grew-refl a))

-- it couldn't be written
pub says_failing : {T : Type 0} (refusal : Refusal) (failed : Type 0) (before now : Option (List ℕ)) (result : Result T Refusal) (cause : Refusal)
    → IsErrAnd result (λ e. e ≡ cause) → Fails (stopped_text refusal) failed before now cause → SaysOf refusal failed before now result
says_failing refusal failed before now (Ok value) cause h f = absurd h
says_failing refusal failed before now (Err other) cause h f = inr (subst (λ (x : Refusal). Fails (stopped_text refusal) failed before now x) (sym h) f)

-- what is said of a refusal, as the answer of the run
said_of : {T : Type 0} (refusal : Refusal) (sink failed : Type 0) (before now : Option (List ℕ)) (result : Result T Refusal)
    → SaysOf refusal sink before now result → (sink → failed)
    → Answers (verdict_with (status_of refusal) (stopped_text refusal)) failed before now (answered result)
said_of refusal sink failed before now (Ok value) said g = absurd said
said_of refusal sink failed before now (Err other) (inl s) g =
    said_by (status_of refusal) (stopped_text refusal) failed before now (status_of other) (inl (ap status_of s.0)) s.1
said_of refusal sink failed before now (Err other) (inr s) g =
    said_partly (status_of refusal) (stopped_text refusal) failed before now other (fails_for (stopped_text refusal) sink failed before now other g s)

-- memory was wanting or a call outside failed, and nothing is said of these
unsaid : (refusal : Refusal) (failed : Type 0) (before now : Option (List ℕ)) (answer : ℕ) → (refusal ≡ Memory) ⊎ ((refusal ≡ Outside) × failed)
    → Answers (verdict_with (status_of refusal) (stopped_text refusal)) failed before now answer → ((answer ≡ 6) ⊎ ((answer ≡ 1) × failed)) × Grew before now []
unsaid refusal failed before now answer why a =
    let part : GrewPart before now [] = subst (λ (t : List ℕ). GrewPart before now t) (none why) a.part in
    (status why a.status_is, subst (λ (t : List ℕ). Grew before now t) (take_nothing part.0) part.1)
  where
    none : (refusal ≡ Memory) ⊎ ((refusal ≡ Outside) × failed) → stopped_text refusal ≡ []
    none (inl e) = ap stopped_text e
    none (inr e) = ap stopped_text e.0

    status : (refusal ≡ Memory) ⊎ ((refusal ≡ Outside) × failed) → (answer ≡ status_of refusal) ⊎ (answer ≡ 6) ⊎ ((answer ≡ 1) × failed)
        → (answer ≡ 6) ⊎ ((answer ≡ 1) × failed)
    status (inl e) (inl h) = inl (h ∙ ap status_of e)
    status (inr e) (inl h) = inr (h ∙ ap status_of e.0, e.1)
    status why (inr h) = h

-- the tape ended the run
pub tape_unlisted : {T : Type 0} (survey : Text) (limit : ℕ) (holds holds' : Names) (config tape : List ℕ) (accepted : Config)
    (rose sink failed : Type 0) (before now : Option (List ℕ)) (refusal : Refusal) (result : Result T Refusal)
    → config_stage limit holds config ≡ Found accepted → holds' ≡ holds → HasReason (tape_stage accepted limit holds' tape) rose refusal
    → (rose → failed) → (sink → failed)
    → SaysOf refusal sink before now result → ListsSo survey limit holds config tape failed before now (answered result)
tape_unlisted survey limit holds holds' config tape accepted rose sink failed before now refusal result e same h f g said =
    by (subst (λ (names : Names). HasReason (tape_stage accepted limit names tape) rose refusal) same h)
  where
    answers : Answers (verdict_with (status_of refusal) (stopped_text refusal)) failed before now (answered result)
    answers = said_of refusal sink failed before now result said g

    by : HasReason (tape_stage accepted limit holds tape) rose refusal → ListsSo survey limit holds config tape failed before now (answered result)
    by (inl h) = inl (
      refusal,
      accepted_with limit holds config tape accepted e
          ∙ ap (λ (s : Stage (List Timed)). and_then s (λ items. Found (accepted, items))) h,
      answers,
    )
    by (inr (inl h)) = inr (inl (unsaid refusal failed before now (answered result) (inl h) answers))
    by (inr (inr h)) = inr (inl (unsaid refusal failed before now (answered result) (inr (h.0, f h.1)) answers))

-- the desk was listed
pub desk_listed : {T : Type 0} (survey : Text) (limit : ℕ) (holds holds' : Names) (config tape : List ℕ) (accepted : Config) (desk : Desked)
    (sink failed : Type 0) (before now : Option (List ℕ)) (result : Result T Refusal)
    → config_stage limit holds config ≡ Found accepted → holds' ≡ holds → (played : IsPlayed accepted (tape_stage accepted limit holds' tape) desk)
    → (sink → failed)
    → Writes (survey accepted (untimed played.items) desk.held) sink before now result
    → ListsSo survey limit holds config tape failed before now (answered result)
desk_listed survey limit holds holds' config tape accepted desk sink failed before now result e same p f w =
    let found : tape_stage accepted limit holds tape ≡ Found p.items =
    subst (λ (names : Names). tape_stage accepted limit names tape ≡ Found p.items) same p.found in
    inr (inr (record {
      accepted = accepted;
      items = p.items;
      held = desk.held;
      found = accepted_with limit holds config tape accepted e ∙ ap (λ (s : Stage (List Timed)). and_then s (λ items. Found (accepted, items))) found;
      leaves = played_leaves accepted (untimed p.items) desk p.played;
      answers = said_so (survey accepted (untimed p.items) desk.held) sink failed before now result w f;
    }))
