use Rattle.std.proofs.Common.{◌≡◌, ◌≢◌, ◌≤◌, ◌<◌, ◌+◌, ◌-◌, [], ℕ, length, IsTrue}
use Rattle.fs_input.proofs.Skipping.{Skipped}
use Rattle.fs_input.proofs.fields.skip_octets.Given as goal

abbrev pub invariant-pieces : goal.invariant-pieces
invariant-pieces g l = record {
  within : l.left ≤ l.size;
  room : 0 < length l.into;
  none : l.counted.back ≡ [];
  slot : l.counted.slot ≡ l.fn.counted.slot;
  limit : l.counted.limit ≡ l.fn.counted.limit;
  taken : l.counted.taken ≡ l.fn.counted.taken + (l.size - l.left);
  later : g.F.Files.faults l.fn.files ≤ g.F.Files.faults l.files;
  others : IsTrue g.F.Files.tells → (other : ℕ) → other ≢ l.fn.counted.slot → g.F.Files.left l.files other ≡ g.F.Files.left l.fn.files other;
  same : IsTrue g.F.Files.tells → g.F.Files.holds l.files ≡ g.F.Files.holds l.fn.files;
  opened : g.F.Files.opened l.files ≡ g.F.Files.opened l.fn.files;
  skipped :
      IsTrue g.F.Files.tells
      → Skipped l.fn.counted.limit l.fn.counted.taken l.counted.taken (l.size - l.left) (g.F.Files.left l.fn.files l.fn.counted.slot)
      (g.F.Files.left l.files l.fn.counted.slot);
}

abbrev pub decreases-pieces : goal.decreases-pieces
decreases-pieces g l = l.left
