use Rattle.fs_rules.proofs.Words.{◌≡◌, ◌+◌, filter, drop, find, length, nat_le, routes_of, is_chosen, chosen, routes_chosen, matching_from}
use Rattle.fs_rules.proofs.lists.next_match.Given as goal

abbrev pub invariant-loop-place : goal.invariant-loop-place
invariant-loop-place l = record {
  rest : find (λ n. nat_le l.n n) (matching_from l.view l.number (routes_of (filter (is_chosen l.family l.kept) (drop l.place l.kept))))
      ≡ find (λ n. nat_le l.n n) (matching_from l.view l.first (routes_chosen l.family l.kept));
  small : l.number + length (filter (is_chosen l.family l.kept) (drop l.place l.kept)) ≡ l.first + length (chosen l.family l.kept);
}
