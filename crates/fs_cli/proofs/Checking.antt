-- How the answer of `check` of a file follows from what is said of it.
use Rattle.fs_cli.proofs.Words.{◌≡◌, ◌≢◌, ◌≤◌, ◌⊎◌, ◌∙◌, ◌∷◌, inl, inr, ℕ, List, [], Option, Result, Ok, Err, refl, sym, subst, arith, rules, Grew}
use Rattle.fs_cli.proofs.Words.{Opened, Openings, OpensFront, IsOneOf, answered, Outside, Rejected, Tape, Capture, Dump, Memory, Limit, Session, ap}
use Rattle.fs_cli.proofs.Words.{Grew-refl, Names, Answers, verdict_with, status_of, Refusal, Verdict, said_whole}
use Rattle.cmd_stages.proofs.Stages.{answers_for}
use Rattle.std.specs.Prelude.{IfOk, MatchResult}
use Rattle.fs_base.specs.Files.{one_opening}
use Rattle.cmd_stages.specs.{Refusal.{IsOfFile}, Said.{Unsaid}, declared.said.Said.{Said}}
use Rattle.cmd_convert.specs.Command.{IsOfDump}
use Rattle.cmd_enforce.specs.Judge.{IsOfCapture}
use Rattle.fs_cli.specs.Survey.{IsOfSurvey}
use Rattle.fs_cli.specs.FileCheck.{ChecksFileSo, FileForm, IsDue, OfCapture, OfConfig, OfDump, OfRules, OfTape, file_openings, file_statuses}

-- nothing was said
pub file_unsaid : (limit : ℕ) (holds : Names) (form : FileForm) (failed other : Type 0) (a : Option (List ℕ)) (refusal : Refusal)
    → Unsaid (IsDue limit holds form) failed refusal → (failed → other) → ChecksFileSo limit holds form other a a (status_of refusal)
file_unsaid limit holds form failed other a refusal (inl h) f =
    inr (verdict_with (status_of refusal) [], h, said_whole (status_of refusal) [] other a a (Grew-refl a))
file_unsaid limit holds form failed other a refusal (inr (inl h)) f = inl (inl (ap status_of h), Grew-refl a)
file_unsaid limit holds form failed other a refusal (inr (inr h)) f = inl (inr (ap status_of h.0, f h.1), Grew-refl a)

-- what is due was said
pub file_said : (limit : ℕ) (holds : Names) (form : FileForm) (failed other : Type 0) (before now : Option (List ℕ)) (verdict : Verdict) (answer : ℕ)
    → IsDue limit holds form verdict → Answers verdict failed before now answer → (failed → other) → ChecksFileSo limit holds form other before now answer
file_said limit holds form failed other before now verdict answer due answers f =
    inr (verdict, due, answers_for verdict failed other before now answer answers f)

-- the statuses that a form of `check` of a file may answer

known : (refusal : Refusal) → IsOneOf (1 ∷ 3 ∷ 4 ∷ 5 ∷ 6 ∷ 7 ∷ 8 ∷ 10 ∷ []) (status_of refusal)
known Outside = search rules
known Rejected = search rules
known (Tape reason place) = search rules
known Capture = search rules
known Dump = search rules
known Memory = search rules
known Limit = search rules
known Session = search rules

abbrev IsFrom : List ℕ → Result Said Refusal → Type 0
IsFrom statuses result = MatchResult result (λ said. IsOneOf statuses said.status) (λ refusal. IsOneOf statuses (status_of refusal))

pub config_possible : (result : Result Said Refusal) → IsOfFile (answered result) × (answered result ≢ 3)
    → IfOk result (λ said. (said.status ≡ 0) ⊎ (said.status ≡ 9)) → IsFrom (0 ∷ 1 ∷ 6 ∷ 7 ∷ 9 ∷ []) result
config_possible (Ok said) p a = search (rules, a)
config_possible (Err refusal) p a = search (rules, known refusal, p)

pub rules_possible : (result : Result Said Refusal) → IsOfFile (answered result)
    → IfOk result (λ said. (said.status ≡ 0) ⊎ (said.status ≡ 9)) → IsFrom (0 ∷ 1 ∷ 3 ∷ 6 ∷ 7 ∷ 9 ∷ []) result
rules_possible (Ok said) p a = search (rules, a)
rules_possible (Err refusal) p a = search (rules, known refusal, p)

pub tape_possible : (result : Result Said Refusal) → IsOfSurvey (answered result) × (answered result ≢ 4)
    → IfOk result (λ said. (said.status ≡ 0) ⊎ (said.status ≡ 4)) → IsFrom (0 ∷ 1 ∷ 3 ∷ 4 ∷ 6 ∷ 7 ∷ []) result
tape_possible (Ok said) p a = search (rules, a)
tape_possible (Err refusal) p a = search (rules, known refusal, p)

pub capture_possible : (result : Result Said Refusal) → IsOfCapture (answered result) × (answered result ≢ 5)
    → IfOk result (λ said. (said.status ≡ 0) ⊎ (said.status ≡ 5)) → IsFrom (0 ∷ 1 ∷ 5 ∷ 6 ∷ 7 ∷ []) result
capture_possible (Ok said) p a = search (rules, a)
capture_possible (Err refusal) p a = search (rules, known refusal, p)

pub dump_possible : (result : Result Said Refusal) → IsOfDump (answered result) × (answered result ≢ 10)
    → IfOk result (λ said. (said.status ≡ 0) ⊎ (said.status ≡ 10)) → IsFrom (0 ∷ 1 ∷ 3 ∷ 6 ∷ 7 ∷ 10 ∷ []) result
dump_possible (Ok said) p a = search (rules, a)
dump_possible (Err refusal) p a = search (rules, known refusal, p)

-- a call on the outside may fail in each
outside_possible : (form : FileForm) (answer : ℕ) → answer ≡ 1 → IsOneOf (file_statuses form) answer
outside_possible (OfConfig config) answer h = inr (inl h)
outside_possible (OfRules config sending) answer h = inr (inl h)
outside_possible (OfTape config tape) answer h = inr (inl h)
outside_possible (OfCapture capture) answer h = inr (inl h)
outside_possible (OfDump config dump) answer h = inr (inl h)

-- what is said is written, or a call on the outside failed
pub said_possible : (form : FileForm) (status answer : ℕ) → IsOneOf (file_statuses form) status → (answer ≡ status) ⊎ (answer ≡ 1)
    → IsOneOf (file_statuses form) answer
said_possible form status answer p (inl h) = subst (IsOneOf (file_statuses form)) (sym h) p
said_possible form status answer p (inr h) = outside_possible form answer h

none_else : (statuses : List ℕ) (answer other : ℕ) → IsOneOf statuses answer → answer ≡ other → IsOneOf statuses other
none_else statuses answer other p h = subst (IsOneOf statuses) h p

-- words that ask for no command have a status of their own
pub never_two : (form : FileForm) (answer : ℕ) → IsOneOf (file_statuses form) answer → answer ≢ 2
never_two form answer p = λ h. two form (none_else (file_statuses form) answer 2 p h)
  where
    two : (form : FileForm) → IsOneOf (file_statuses form) 2 → ⊥
    two (OfConfig config) p = search (rules, p)
    two (OfRules config sending) p = search (rules, p)
    two (OfTape config tape) p = search (rules, p)
    two (OfCapture capture) p = search (rules, p)
    two (OfDump config dump) p = search (rules, p)

-- what was opened where something is said, and it is written or a call on the outside failed
pub opens_said : (openings : Openings) (before now : Option (List Opened)) (status answer : ℕ) → OpensFront openings before now 0
    → status ≢ 3 → (answer ≡ status) ⊎ (answer ≡ 1) → OpensFront openings before now answer
opens_said openings before now status answer p other is = record {
  count = p.count;
  front = p.front;
  some = p.some;
  few = λ three. by three is;
  all = λ zero. p.all refl;
}
  where
    by : answer ≡ 3 → (answer ≡ status) ⊎ (answer ≡ 1) → p.count ≤ openings.judged
    by three (inl h) = absurd (other (sym h ∙ three))
    by three (inr h) = let wrong : 1 ≡ 3 = sym h ∙ three in absurd cc

-- a capture was opened
pub capture_opens : (capture : List ℕ) (before now : Option (List Opened)) (answer : ℕ) → Grew before now (one_opening 2 capture)
    → OpensFront (file_openings (OfCapture capture)) before now answer
capture_opens capture before now answer grew =
    record { count = 1; front = grew; some = omega arith; few = λ three. omega arith; all = λ zero. omega arith }

-- what is said has no status at which nothing is written
pub never_quiet : {A : Type 0} (status answer : ℕ) → (status ≢ 3) × (status ≢ 6) → (answer ≡ status) ⊎ (answer ≡ 1) → (answer ≡ 3) ⊎ (answer ≡ 6) → A
never_quiet status answer other (inl h) (inl three) = absurd (other.0 (sym h ∙ three))
never_quiet status answer other (inl h) (inr six) = absurd (other.1 (sym h ∙ six))
never_quiet status answer other (inr h) (inl three) = let wrong : 1 ≡ 3 = sym h ∙ three in absurd cc
never_quiet status answer other (inr h) (inr six) = let wrong : 1 ≡ 6 = sym h ∙ six in absurd cc
