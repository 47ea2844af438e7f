use Rattle.cmd_stages.proofs.{Words.{◌≡◌, ◌≤◌, ◌-◌, length, IsTrue, None, OnlySlot, longest_payload, coming}, Playing.{Playing}}
use Rattle.cmd_stages.proofs.play.play_items.Given as goal

abbrev pub invariant-items : goal.invariant-items
invariant-items g l = record {
  room : longest_payload ≤ length l.buffer;
  unended : l.tape.end ≡ None;
  slot : l.tape.slot ≡ l.fn.tape.slot;
  limit : l.tape.limit ≡ l.fn.tape.limit;
  version : l.tape.version ≡ l.fn.tape.version;
  within : l.tape.place ≤ l.tape.limit;
  config : l.desk.config ≡ l.config;
  later : g.F.Files.faults l.fn.files ≤ g.F.Files.faults l.files;
  opened : g.F.Files.opened l.files ≡ g.F.Files.opened l.fn.files;
  others : OnlySlot g.F.Files.tells g.F.Files.left g.F.Files.holds l.fn.tape.slot l.fn.files l.files;
  playing : IsTrue g.F.Files.tells
      → Playing l.config l.fn.tape.version (coming l.config l.fn.tape (g.F.Files.left l.fn.files l.fn.tape.slot))
      (coming l.config l.tape (g.F.Files.left l.files l.tape.slot)) l.desk;
}

abbrev pub decreases-items : goal.decreases-items
decreases-items g l = l.tape.limit - l.tape.place
