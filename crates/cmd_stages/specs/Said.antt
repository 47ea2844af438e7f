-- What is said of a file that is checked, and why nothing is.
use Rattle.std.specs.Prelude.{List, [], Result, MatchResult, ◌≡◌, ◌⊎◌, string_bytes}
use Rattle.cmd_stages.specs.Refusal.{Verdict, status_of, verdict_with}
use Rattle.cmd_stages.specs.declared.{refusal.Refusal.{Refusal, TheVariants.{Memory, Outside}}, said.Said.{Said}}

abbrev pub said_shown : Said → Verdict
said_shown said = verdict_with said.status (string_bytes said.text)

-- why nothing is said: the files call for that, memory was wanting, or a call on the outside failed
abbrev pub Unsaid : (Verdict → Type 0) → Type 0 → Refusal → Type 0
Unsaid due failed refusal = due (verdict_with (status_of refusal) []) ⊎ (refusal ≡ Memory) ⊎ ((refusal ≡ Outside) × failed)

-- what is due is said, or nothing is
abbrev pub Says : (Verdict → Type 0) → Type 0 → Result Said Refusal → Type 0
Says due failed result = MatchResult result (λ said. due (said_shown said)) (Unsaid due failed)
