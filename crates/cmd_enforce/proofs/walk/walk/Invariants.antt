use Rattle.cmd_enforce.proofs.Words.{◌≡◌, ◌≤◌, ◌+◌, ◌-◌, length, List, vec_capacity, vec_len, Listed, AreMatchesOf, reaching, reaching_from}
use Rattle.cmd_enforce.proofs.Words.{WalksWith}
use Rattle.cmd_enforce.proofs.Walking.{WalkGoesOn}
use Rattle.cmd_enforce.proofs.walk.walk.Given as goal

abbrev pub invariant-rules : goal.invariant-rules
invariant-rules g l = record {
  within : l.matches.from ≤ length l.rules;
  count : vec_len l.walked ≤ l.matches.from;
  room : length l.rules ≤ vec_capacity l.walked;
  same : vec_capacity l.walked ≡ vec_capacity l.fn.walked;
  matches : (list : List Listed) → WalksWith l.fn.view list l.fn.compiled l.rules → AreMatchesOf l.fn.view list l.matches;
  walked : (list : List Listed) → WalksWith l.fn.view list l.fn.compiled l.rules → WalkGoesOn l.fn.view list l.matches.from l.walked.items;
  steps : (list : List Listed) → WalksWith l.fn.view list l.fn.compiled l.rules
      → l.steps + reaching_from l.matches.from l.fn.view list ≤ l.fn.steps + reaching l.fn.view list;
}

abbrev pub decreases-rules : goal.decreases-rules
decreases-rules g l = length l.rules - l.matches.from
