use Rattle.fs_compile.proofs.Words.{◌≡◌, ℕ, ◌-◌, ◌<◌, ◌≤◌, front_of}
use Rattle.fs_compile.proofs.filters.Rows.next_front.Given as goal

abbrev pub invariant-clear : goal.invariant-clear
invariant-clear l = record {
  from : l.from ≤ l.place;
  to : l.place ≤ l.to;
  clear : (place : ℕ) → l.from ≤ place → place < l.place → front_of l.self place ≡ 0;
}

abbrev pub decreases-clear : goal.decreases-clear
decreases-clear l = l.to - l.place
