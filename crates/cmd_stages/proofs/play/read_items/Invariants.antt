use Rattle.cmd_stages.proofs.Words.{◌≡◌, ◌≤◌, ◌-◌, length, IsTrue, None, OnlySlot, longest_payload, coming}
use Rattle.cmd_stages.proofs.play.read_items.Given as goal

abbrev pub invariant-items : goal.invariant-items
invariant-items g l = record {
  room : longest_payload ≤ length l.buffer;
  unended : l.tape.end ≡ None;
  slot : l.tape.slot ≡ l.fn.tape.slot;
  limit : l.tape.limit ≡ l.fn.tape.limit;
  within : l.tape.place ≤ l.tape.limit;
  later : g.F.Files.faults l.fn.files ≤ g.F.Files.faults l.files;
  opened : g.F.Files.opened l.files ≡ g.F.Files.opened l.fn.files;
  others : OnlySlot g.F.Files.tells g.F.Files.left g.F.Files.holds l.fn.tape.slot l.fn.files l.files;
  end_is : IsTrue g.F.Files.tells
      → (coming l.config l.fn.tape (g.F.Files.left l.fn.files l.fn.tape.slot)).1 ≡ (coming l.config l.tape (g.F.Files.left l.files l.tape.slot)).1;
}

abbrev pub decreases-items : goal.decreases-items
decreases-items g l = l.tape.limit - l.tape.place
