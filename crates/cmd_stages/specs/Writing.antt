-- What becomes of a text that is written: in one piece, or the rest of one that a buffer kept back.
use Rattle.std.specs.{Prelude.{◌≡◌, ◌⊎◌, ℕ, List, [], Option, Result, MatchResult}, Result.{IsErrAnd}}
use Rattle.fs_base.specs.Sink.{Grew, GrewPart}
use Rattle.cmd_stages.specs.declared.refusal.Refusal.{Refusal, TheVariants.{Outside, Memory}}

-- why a text isn't written: memory was wanting, before any of it was; or the sink failed, after a front of it
abbrev pub Fails : List ℕ → Type 0 → Option (List ℕ) → Option (List ℕ) → Refusal → Type 0
Fails text failed before now refusal =
    ((refusal ≡ Memory) × Grew before now []) ⊎ ((refusal ≡ Outside) × failed × GrewPart before now text)

abbrev pub Writes : {T : Type 0} → List ℕ → Type 0 → Option (List ℕ) → Option (List ℕ) → Result T Refusal → Type 0
Writes text failed before now result = MatchResult result (λ _. Grew before now text) (Fails text failed before now)

-- what was pending was written out, and what is due is answered; or it couldn't be
abbrev pub Finishes : {T : Type 0} → List ℕ → Type 0 → Option (List ℕ) → Option (List ℕ) → (due result : Result T Refusal) → Type 0
Finishes pending failed before now due result =
    ((result ≡ due) × Grew before now pending) ⊎ (IsErrAnd result (λ refusal. refusal ≡ Outside) × failed × GrewPart before now pending)
