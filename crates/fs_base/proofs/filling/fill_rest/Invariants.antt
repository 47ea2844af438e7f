use Rattle.fs_base.proofs.{Words.{◌≡◌, ◌≤◌, ◌+◌, ◌-◌, ◌++◌, [], drop, length, IsTrue, PassesIn}, Filled.{Filled}}
use Rattle.fs_base.proofs.filling.fill_rest.Given as goal

abbrev pub invariant-loop-at : goal.invariant-loop-at
invariant-loop-at g l = record {
  within : l.at ≤ length l.into;
  size : length l.into ≡ length l.initial.into;
  taken : l.counted.taken ≡ l.fn.counted.taken + l.at;
  filled :
      IsTrue g.F.Files.tells
      → Filled
      (l.fn.counted.back ++ g.F.Files.left l.fn.files l.fn.counted.slot)
      (l.counted.back ++ g.F.Files.left l.files l.fn.counted.slot)
      l.into
      l.at;
  again : l.counted.back ≡ drop l.at l.fn.counted.back;
  none : l.fn.counted.back ≡ [] → l.counted.back ≡ [];
  passes : PassesIn g.F.Files l.fn.files l.files l.fn.counted l.counted;
}

abbrev pub decreases-loop-at : goal.decreases-loop-at
decreases-loop-at g l = length l.into - l.at
