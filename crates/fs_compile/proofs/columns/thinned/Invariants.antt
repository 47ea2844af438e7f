use Rattle.fs_compile.proofs.Words.{◌<◌, ◌≤◌, ℕ, get_or, length, AreRising}
use Rattle.fs_compile.proofs.columns.thinned.Given as goal

abbrev pub invariant-loop-number : goal.invariant-loop-number
invariant-loop-number l = record {
  left : 0 < l.left;
  few : length l.taken.items ≤ l.most;
  rising : AreRising l.taken.items;
  below : (i : ℕ) → i < length l.taken.items → get_or l.taken.items i 0 ≤ l.last;
}
