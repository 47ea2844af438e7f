-- Why a run ends, and what it answers then. The order of work: each stage gives what the next one
-- needs, or ends the run with a refusal.
use Rattle.std.specs.Prelude.{ℕ, Option, Some, None, Result, MatchResult, ◌≡◌, ◌⊎◌, ◌≢◌, List, [], Ok, Err}
use Rattle.cmd_stages.specs.declared.refusal.Refusal.{Refusal, TheVariants.{Outside, Rejected, Tape, Capture, Dump, Memory, Limit, Session}}
use Rattle.fs_base.specs.Sink.{Grew, GrewPart}

pub data Stage (A : Type 0) : Type 0 where
  Found : A → Stage A
  Stopped : Refusal → Stage A

abbrev pub and_then : {A B : Type 0} → Stage A → (A → Stage B) → Stage B
and_then (Found a) next = next a
and_then (Stopped refusal) next = Stopped refusal

-- the value, or this refusal where there is none
abbrev pub or_stop : {A : Type 0} → Refusal → Option A → Stage A
or_stop refusal (Some a) = Found a
or_stop refusal None = Stopped refusal

-- the status of each refusal
abbrev pub status_of : Refusal → ℕ
status_of Outside = 1
status_of Rejected = 3
status_of (Tape reason place) = 4
status_of Capture = 5
status_of Dump = 10
status_of Memory = 6
status_of Limit = 7
status_of Session = 8

-- why a refusal is answered: the stage ends so, or memory was wanting, or a call on the outside failed
abbrev pub HasReason : {A : Type 0} → Stage A → Type 0 → Refusal → Type 0
HasReason stage failed refusal =
    (stage ≡ Stopped refusal) ⊎ (refusal ≡ Memory) ⊎ ((refusal ≡ Outside) × failed)

-- what is answered is what the stage gives, or has such a reason
abbrev pub Reaches : {T A : Type 0} → (T → A) → Stage A → Type 0 → Result T Refusal → Type 0
Reaches view stage failed result = MatchResult result (λ t. stage ≡ Found (view t)) (HasReason stage failed)

abbrev pub answered : {T : Type 0} → Result T Refusal → ℕ
answered (Ok t) = 0
answered (Err refusal) = status_of refusal

-- a status of the configuration or of the rules file: of no other input, and of no session
abbrev pub IsOfFile : ℕ → Type 0
IsOfFile status = (status ≢ 4) × (status ≢ 5) × (status ≢ 8) × (status ≢ 10)

-- a status of the tape
abbrev pub IsOfTape : ℕ → Type 0
IsOfTape status = (status ≢ 3) × (status ≢ 5) × (status ≢ 8) × (status ≢ 10)

-- a status of no input and of no session: memory was wanting, or a call on the outside failed, or the job is done
abbrev pub IsLate : ℕ → Type 0
IsLate status = (status ≢ 3) × (status ≢ 4) × (status ≢ 5) × (status ≢ 7) × (status ≢ 8) × (status ≢ 10)

-- the status of a run, and all that it is to write
pub record Verdict : Type 0 where
  pub status : ℕ
  pub text : List ℕ

abbrev pub verdict_with : ℕ → List ℕ → Verdict
verdict_with status text = record { status = status; text = text }

-- The status is the verdict's, but for want of memory and for a call on the outside that failed. What is written is the
-- verdict's text, or a front of it in these two cases.
pub record Answers (verdict : Verdict) (failed : Type 0) (before now : Option (List ℕ)) (answer : ℕ) : Type 0 where
  pub status_is : (answer ≡ verdict.status) ⊎ (answer ≡ 6) ⊎ ((answer ≡ 1) × failed)
  pub part : GrewPart before now verdict.text
  pub whole : answer ≢ 6 → answer ≢ 1 → Grew before now verdict.text

-- The run ended before anything was written: a stage ended it, memory was wanting, or a call on the outside failed.
pub record EndsEarly {A : Type 0} (stage : Stage A) (failed : Type 0) (before now : Option (List ℕ)) (answer : ℕ) : Type 0 where
  pub reason : ((refusal : Refusal) × (stage ≡ Stopped refusal) × (answer ≡ status_of refusal))
      ⊎ (answer ≡ 6) ⊎ ((answer ≡ 1) × failed)
  pub nothing : Grew before now []
