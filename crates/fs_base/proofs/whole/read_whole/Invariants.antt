use Rattle.fs_base.{proofs.Words.{◌≡◌, ◌≤◌, ◌-◌, ◌++◌, [], length, IsTrue, Passed}, specs.Files.{OnlySlot}}
use Rattle.fs_base.proofs.whole.read_whole.Given as goal

abbrev pub invariant-loop-octets : goal.invariant-loop-octets
invariant-loop-octets g l = record {
  slot : l.counted.slot ≡ l.fn.slot;
  limit : l.counted.limit ≡ l.fn.limit;
  taken : l.counted.taken ≡ length l.octets.items;
  later : g.F.Files.faults l.fn.files ≤ g.F.Files.faults l.files;
  back : l.counted.back ≡ [];
  content : IsTrue g.F.Files.tells → g.F.Files.left l.fn.files l.fn.slot ≡ l.octets.items ++ g.F.Files.left l.files l.fn.slot;
  took :
      IsTrue g.F.Files.tells
      → Passed l.fn.limit 0 l.counted.taken (g.F.Files.left l.fn.files l.fn.slot) (g.F.Files.left l.files l.fn.slot);
  opened : g.F.Files.opened l.files ≡ g.F.Files.opened l.fn.files;
  others : OnlySlot g.F.Files.tells g.F.Files.left g.F.Files.holds l.fn.slot l.fn.files l.files;
}

abbrev pub decreases-loop-octets : goal.decreases-loop-octets
decreases-loop-octets g l = l.counted.limit - l.counted.taken
