-- How the answer of a run follows from those of its stages.
use Rattle.cmd_stages.proofs.Words.{◌≡◌, ◌⊎◌, inl, inr, ◌≤◌, arith, ℕ, List, [], Option, Result, Ok, Err, take, refl, ap, sym, subst, Rose, Config}
use Rattle.cmd_stages.proofs.Words.{Grew-refl, part_none, Names, config_stage, tape_stage, accepted_stage, Verdict, answered, Answers, EndsEarly}
use Rattle.cmd_stages.proofs.Words.{Stage, Found, and_then, status_of, HasReason, Finishes, Refusal, Outside, Memory, rose_earlier}
use Rattle.std.{specs.Result.{IsErrAnd, MatchResult}, proofs.lemmas.Grind.{common_steps}}

-- a stage that ends the run ends it for all that would follow
pub reason_then : {A B : Type 0} (stage : Stage A) (next : A → Stage B) (failed : Type 0) (refusal : Refusal)
    → HasReason stage failed refusal → HasReason (and_then stage next) failed refusal
reason_then stage next failed refusal (inl h) = inl (ap (λ s. and_then s next) h)
reason_then stage next failed refusal (inr h) = inr h

-- want of memory answers 6, and a failure outside 1, before anything is written
pub answers_memory : (verdict : Verdict) (failed : Type 0) (a : Option (List ℕ)) (refusal : Refusal) → refusal ≡ Memory
    → Answers verdict failed a a (status_of refusal)
answers_memory verdict failed a refusal e = record {
  status_is = inr (inl (ap status_of e));
  part = part_none a a verdict.text (Grew-refl a);
  whole = λ six one. absurd (six (ap status_of e));
}

pub answers_outside : (verdict : Verdict) (failed : Type 0) (a : Option (List ℕ)) (refusal : Refusal) → refusal ≡ Outside → failed
    → Answers verdict failed a a (status_of refusal)
answers_outside verdict failed a refusal e f = record {
  status_is = inr (inr (ap status_of e, f));
  part = part_none a a verdict.text (Grew-refl a);
  whole = λ six one. absurd (one (ap status_of e));
}

-- what is answered for a refusal that a `?` hands on
pub answered_err : {T : Type 0} (P : ℕ → Type 0) (r : Result T Refusal) (cause : Refusal) → IsErrAnd r (λ e. e ≡ cause) → P (status_of cause) → P (answered r)
answered_err P (Ok t) cause h p = absurd h
answered_err P (Err e) cause h p = subst (λ (x : Refusal). P (status_of x)) (sym h) p

-- the run ended for this reason, before anything was written
pub ends_early : {A : Type 0} (stage : Stage A) (failed failed' : Type 0) (a : Option (List ℕ)) (refusal : Refusal)
    → HasReason stage failed refusal → (failed → failed') → EndsEarly stage failed' a a (status_of refusal)
ends_early stage failed failed' a refusal (inl h) f = record { reason = inl (refusal, h, refl); nothing = Grew-refl a }
ends_early stage failed failed' a refusal (inr (inl h)) f = record { reason = inr (inl (ap status_of h)); nothing = Grew-refl a }
ends_early stage failed failed' a refusal (inr (inr h)) f = record { reason = inr (inr (ap status_of h.0, f h.1)); nothing = Grew-refl a }

-- the stage of configuration and tape, where the configuration is accepted
pub accepted_with : (limit : ℕ) (holds : Names) (config tape : List ℕ) (accepted : Config) → config_stage limit holds config ≡ Found accepted
    → accepted_stage limit holds config tape ≡ and_then (tape_stage accepted limit holds tape) (λ items. Found (accepted, items))
accepted_with limit holds config tape accepted e =
    ap (λ (s : Stage Config). and_then s (λ accepted. and_then (tape_stage accepted limit holds tape) (λ items. Found (accepted, items)))) e

-- what is said where one call failed is said where that or another did
pub answers_for : (verdict : Verdict) (failed failed' : Type 0) (before now : Option (List ℕ)) (answer : ℕ) → Answers verdict failed before now answer
    → (failed → failed') → Answers verdict failed' before now answer
answers_for verdict failed failed' before now answer a f = record { status_is = at a.status_is; part = a.part; whole = a.whole }
  where
    at : (answer ≡ verdict.status) ⊎ (answer ≡ 6) ⊎ ((answer ≡ 1) × failed) → (answer ≡ verdict.status) ⊎ (answer ≡ 6) ⊎ ((answer ≡ 1) × failed')
    at (inl h) = inl h
    at (inr (inl h)) = inr (inl h)
    at (inr (inr h)) = inr (inr (h.0, f h.1))

-- what is said of an error that a `?` hands on
pub match_err : {T E : Type 0} {R : E → Type 0} (P : T → Type 0) (Q : E → Type 0) (r : Result T E) → IsErrAnd r R → ((e : E) → R e → Q e) → MatchResult r P Q
match_err P Q (Ok t) h f = absurd h
match_err P Q (Err e) h f = f e h

-- a count that rose in a part rose in the whole
pub rose_later : (before mid now : ℕ) → Rose before mid → mid ≤ now → Rose before now
rose_later before mid now r l = omega (arith, r, l)

pub either_rose : (before mid now : ℕ) (other : Type 0) → before ≤ mid → Rose mid now ⊎ other → Rose before now ⊎ other
either_rose before mid now other l (inl r) = inl (rose_earlier before mid now l r)
either_rose before mid now other l (inr h) = inr h

-- the status of a call on the outside that failed
pub outside_one : {T : Type 0} (r : Result T Refusal) → IsErrAnd r (λ e. e ≡ Outside) → answered r ≡ 1
outside_one (Ok t) h = absurd h
outside_one (Err refusal) h = ap status_of h

-- what is said of the status that is due, and of that of a call on the outside that failed, where what is pending was written out after it
pub finished_by : {T : Type 0} (P : ℕ → Type 0) (pending : List ℕ) (failed : Type 0) (before now : Option (List ℕ)) (due result : Result T Refusal)
    → Finishes pending failed before now due result → P (answered due) → P 1 → P (answered result)
finished_by P pending failed before now due result (inl h) p one = subst (λ r. P (answered r)) (sym h.0) p
finished_by P pending failed before now due result (inr h) p one = subst P (sym (outside_one result h.0)) one

abbrev pub no_octets : List ℕ
no_octets = []

pub take_nothing : (n : ℕ) → take n no_octets ≡ []
take_nothing n = grind (arith, common_steps)
