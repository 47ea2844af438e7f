use Rattle.fs_rules.proofs.Words.{◌≡◌, ◌+◌, ◌≤◌, filter, drop, length, is_chosen, chosen}
use Rattle.fs_rules.proofs.lists.count_admitted.Given as goal

abbrev pub invariant-loop-place : goal.invariant-loop-place
invariant-loop-place l = record {
  counted : l.count + length (filter (is_chosen l.family l.kept) (drop l.place l.kept)) ≡ length (chosen l.family l.kept);
  small : l.count ≤ l.place;
}
