-- What a command opened, by where it ends.
use Rattle.cmd_stages.proofs.Words.{◌≡◌, ◌≤◌, ℕ, List, Option, Result, subst, sym, take, Opened, Grew, Openings, OpensFront, answered, status_of}
use Rattle.cmd_stages.proofs.Words.{Refusal, Capture, Dump, Limit, Memory, Outside, Rejected, Session, Tape}
use Rattle.cmd_stages.proofs.Stages.{answered_err}
use Rattle.std.specs.Result.{IsErrAnd}

-- no refusal ends a run with status 0
pub never_zero : (refusal : Refusal) → status_of refusal ≡ 0 → ⊥
never_zero Outside e = absurd cc
never_zero Rejected e = absurd cc
never_zero (Tape reason place) e = absurd cc
never_zero Capture e = absurd cc
never_zero Dump e = absurd cc
never_zero Memory e = absurd cc
never_zero Limit e = absurd cc
never_zero Session e = absurd cc

-- it ended with a refusal after so many openings
pub refused_at : {T : Type 0} (openings : Openings) (count : ℕ) → 1 ≤ count → (before now : Option (List Opened)) (r : Result T Refusal) (cause : Refusal)
    → IsErrAnd r (λ e. e ≡ cause) → Grew before now (take count openings.files) → (status_of cause ≡ 3 → count ≤ openings.judged)
    → OpensFront openings before now (answered r)
refused_at openings count some before now r cause same grew few =
    answered_err (OpensFront openings before now) r cause same
    (record { count = count; front = grew; some = some; few = few; all = λ zero. absurd (never_zero cause zero) })

-- it opened as many as are due, and then none
pub opened_due : (openings : Openings) (count : ℕ) → 1 ≤ count → (before then now : Option (List Opened)) (answer : ℕ)
    → Grew before then (take count openings.files) → now ≡ then → openings.due ≤ count → (answer ≡ 3 → count ≤ openings.judged)
    → OpensFront openings before now answer
opened_due openings count some before then now answer grew same due few =
    record { count = count; front = subst (λ n. Grew before n (take count openings.files)) (sym same) grew; some = some; few = few; all = λ zero. due }
