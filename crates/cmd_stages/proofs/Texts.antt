-- What becomes of a text that is written in one piece, as the answer of a run.
use Rattle.cmd_stages.proofs.Words.{◌≡◌, ◌⊎◌, inl, inr, ℕ, List, Option, Result, Ok, Err, refl, ap, part_whole, part_none, Answers, answered}
use Rattle.cmd_stages.proofs.Words.{status_of, verdict_with, Fails, Writes, Refusal}
use Rattle.fs_base.specs.Sink.{Grew, GrewPart}

-- the whole text stands
pub said_by : (status : ℕ) (text : List ℕ) (failed : Type 0) (before now : Option (List ℕ)) (answer : ℕ)
    → (answer ≡ status) ⊎ (answer ≡ 6) ⊎ ((answer ≡ 1) × failed) → Grew before now text → Answers (verdict_with status text) failed before now answer
said_by status text failed before now answer is grew = record { status_is = is; part = part_whole before now text grew; whole = λ six one. grew }

pub said_whole : (status : ℕ) (text : List ℕ) (failed : Type 0) (before now : Option (List ℕ)) → Grew before now text
    → Answers (verdict_with status text) failed before now status
said_whole status text failed before now grew = said_by status text failed before now status (inl refl) grew

-- or a front of it, as a call outside failed
pub said_front : (status : ℕ) (text : List ℕ) (failed : Type 0) (before now : Option (List ℕ)) (answer : ℕ) → answer ≡ 1 → failed → GrewPart before now text
    → Answers (verdict_with status text) failed before now answer
said_front status text failed before now answer one f part = record { status_is = inr (inr (one, f)); part = part; whole = λ six other. absurd (other one) }

-- or it couldn't be written
pub said_partly : (status : ℕ) (text : List ℕ) (failed : Type 0) (before now : Option (List ℕ)) (refusal : Refusal) → Fails text failed before now refusal
    → Answers (verdict_with status text) failed before now (status_of refusal)
said_partly status text failed before now refusal (inl h) = record {
  status_is = inr (inl (ap status_of h.0));
  part = part_none before now text h.1;
  whole = λ six one. absurd (six (ap status_of h.0));
}
said_partly status text failed before now refusal (inr h) = said_front status text failed before now (status_of refusal) (ap status_of h.0) h.1 h.2

-- what is said where one call failed is said where that or another did
pub fails_for : (text : List ℕ) (sink failed : Type 0) (before now : Option (List ℕ)) (other : Refusal) → (sink → failed)
    → Fails text sink before now other → Fails text failed before now other
fails_for text sink failed before now other f (inl h) = inl h
fails_for text sink failed before now other f (inr h) = inr (h.0, f h.1, h.2)

-- so of a text that is all that is to be written
pub said_so : {T : Type 0} (text : List ℕ) (failed other : Type 0) (before now : Option (List ℕ)) (result : Result T Refusal)
    → Writes text failed before now result → (failed → other)
    → Answers (verdict_with 0 text) other before now (answered result)
said_so text failed other before now (Ok value) grew f = said_whole 0 text other before now grew
said_so text failed other before now (Err refusal) fails f =
    said_partly 0 text other before now refusal (fails_for text failed other before now refusal f fails)
