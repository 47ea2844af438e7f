use Rattle.fs_pcapng.proofs.{Words.{◌≡◌, ◌≤◌, ◌+◌, [], moment}, Cursors.{Moved}}
use Rattle.fs_pcapng.proofs.options.read_options.Given as goal

abbrev pub invariant-options : goal.invariant-options
invariant-options g l = record {
  none : l.counted.back ≡ [];
  left : l.now.left ≤ l.size;
  taken : l.counted.taken + l.now.left ≡ l.fn.counted.taken + l.size;
  walked : Moved l.order l.size g.F.Files.tells (moment g.F.Files l.fn.files l.fn.counted) (moment g.F.Files l.files l.counted) l.now;
}

abbrev pub decreases-options : goal.decreases-options
decreases-options g l = l.now.left
