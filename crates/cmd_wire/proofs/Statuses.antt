-- Which status a run answers, and which it doesn't.
use Rattle.cmd_wire.proofs.Words.{AtLimit, Done, Ended, Ending, FilesStood, Found, Happened, Refusal, Rose, SinkStood, Stage, Stood, Stopped}
use Rattle.cmd_wire.proofs.Words.{WireStood, status_of, ◌≡◌, ◌≢◌, ◌⊎◌, inl, inr, ◌∙◌, ℕ, List, arith, refl, sym, subst, verdict_by, AnyFailed}
use Rattle.fs_peering.specs.declared.tell.Ending.TheVariants.{Closed}

-- the status that is due, or want of memory, or a call outside that failed
abbrev pub Caused : Type 0 → ℕ → ℕ → Type 0
Caused failed status answer = (answer ≡ status) ⊎ (answer ≡ 6) ⊎ ((answer ≡ 1) × failed)

-- so of a run that ended before anything was written
abbrev pub Early : {A : Type 0} → Stage A → Type 0 → ℕ → Type 0
Early stage failed answer = ((refusal : Refusal) × (stage ≡ Stopped refusal) × (answer ≡ status_of refusal)) ⊎ (answer ≡ 6) ⊎ ((answer ≡ 1) × failed)

-- one ending alone answers 0
pub only_done : (ending : Ending) (text : List ℕ) → (verdict_by ending text).status ≡ 0 → ending ≡ Done
only_done Done text e = refl
only_done (Closed why) text e = absurd cc
only_done Ended text e = absurd cc
only_done AtLimit text e = absurd cc

pub same_found : {A : Type 0} {x y : A} → Found x ≡ Found y → x ≡ y
same_found e = cc

never_stopped : {A : Type 0} (a : A) (refusal : Refusal) → Found a ≡ Stopped refusal → ⊥
never_stopped a refusal e = absurd cc

-- a stage that gave a value wasn't stopped
pub not_stopped : {A : Type 0} {P : Type 0} {stage : Stage A} {a : A} {refusal : Refusal} → stage ≡ Found a → stage ≡ Stopped refusal → P
not_stopped {a = a} {refusal = refusal} e h = absurd (never_stopped a refusal (sym e ∙ h))

pub differs : (answer one other : ℕ) → one ≢ other → answer ≡ one → answer ≢ other
differs answer one other d e h = d (sym e ∙ h)

-- the status that is due, where neither of the other causes answers so
pub due_status : (failed : Type 0) (status answer wanted : ℕ) → answer ≡ wanted → wanted ≢ 6 → wanted ≢ 1 → Caused failed status answer → answer ≡ status
due_status failed status answer wanted is six one (inl h) = h
due_status failed status answer wanted is six one (inr (inl h)) = absurd (six (sym is ∙ h))
due_status failed status answer wanted is six one (inr (inr h)) = absurd (one (sym is ∙ h.0))

-- no run ended early with a status that no refusal of its stage has
pub never_early : {A : Type 0} (stage : Stage A) (failed : Type 0) (answer wanted : ℕ) → answer ≡ wanted → wanted ≢ 6 → wanted ≢ 1
    → ((refusal : Refusal) → stage ≡ Stopped refusal → status_of refusal ≡ wanted → ⊥) → Early stage failed answer → ⊥
never_early stage failed answer wanted is six one none (inl h) = none h.0 h.1 (sym h.2 ∙ is)
never_early stage failed answer wanted is six one none (inr (inl h)) = six (sym is ∙ h)
never_early stage failed answer wanted is six one none (inr (inr h)) = one (sym is ∙ h.0)

-- the status of a run that ended early, as the stage's
pub early_status : {A : Type 0} (stage : Stage A) (failed : Type 0) (answer : ℕ) (By : Stage A → Type 0)
    → ((refusal : Refusal) → answer ≡ status_of refusal → By (Stopped refusal)) → Early stage failed answer → By stage ⊎ (answer ≡ 6) ⊎ ((answer ≡ 1) × failed)
early_status stage failed answer By stopped (inl h) = inl (subst By (sym h.1) (stopped h.0 h.2))
early_status stage failed answer By stopped (inr h) = inr h

-- and of one that didn't
pub late_status : (failed : Type 0) (status answer : ℕ) (By : Type 0) → (answer ≡ status → By) → Caused failed status answer
    → By ⊎ (answer ≡ 6) ⊎ ((answer ≡ 1) × failed)
late_status failed status answer By due (inl h) = inl (due h)
late_status failed status answer By due (inr h) = inr h

-- where nothing failed

pub not_rose : (before now : ℕ) → Stood before now → Rose before now → ⊥
not_rose before now s r = omega (arith, s.stands, s.below, r)

pub none_failed : (call : Happened) → FilesStood call → SinkStood call → WireStood call → AnyFailed call → ⊥
none_failed call f s w (inl r) = not_rose call.before.file_faults call.now.file_faults f r
none_failed call f s w (inr (inl r)) = not_rose call.before.sink_faults call.now.sink_faults s r
none_failed call f s w (inr (inr r)) = not_rose call.before.wire_faults call.now.wire_faults w r

pub served_early : {A : Type 0} (stage : Stage A) (a : A) (failed : Type 0) (answer : ℕ) → stage ≡ Found a → (failed → ⊥) → Early stage failed answer
    → (answer ≡ 0) ⊎ (answer ≡ 6)
served_early stage a failed answer found never (inl h) = absurd (never_stopped a h.0 (sym found ∙ h.1))
served_early stage a failed answer found never (inr (inl h)) = inr h
served_early stage a failed answer found never (inr (inr h)) = absurd (never h.1)

pub served_late : (failed : Type 0) (status answer : ℕ) → status ≡ 0 → (failed → ⊥) → Caused failed status answer → (answer ≡ 0) ⊎ (answer ≡ 6)
served_late failed status answer zero never (inl h) = inl (h ∙ zero)
served_late failed status answer zero never (inr (inl h)) = inr h
served_late failed status answer zero never (inr (inr h)) = absurd (never h.1)
