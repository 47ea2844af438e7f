use Rattle.fs_cli.proofs.{Words.{◌≡◌, ◌≤◌, length, IsTrue}, TapeChecking.{Counting}}
use Rattle.std.specs.Prelude.{◌-◌, None}
use Rattle.fs_tape.specs.{Header.{longest_payload}, Tape.{coming}}
use Rattle.fs_cli.proofs.tape_check.count_items.Given as goal

abbrev pub invariant-items : goal.invariant-items
invariant-items g l = record {
  room : longest_payload ≤ length l.buffer;
  unended : l.tape.end ≡ None;
  slot : l.tape.slot ≡ l.fn.tape.slot;
  limit : l.tape.limit ≡ l.fn.tape.limit;
  within : l.tape.place ≤ l.tape.limit;
  few : l.counts.items ≤ l.tape.place;
  later : g.F.Files.faults l.fn.files ≤ g.F.Files.faults l.files;
  opened : g.F.Files.opened l.files ≡ g.F.Files.opened l.fn.files;
  counting : IsTrue g.F.Files.tells
      → Counting (coming l.config l.fn.tape (g.F.Files.left l.fn.files l.fn.tape.slot)) (coming l.config l.tape (g.F.Files.left l.files l.tape.slot))
      l.fn.nothing l.counts;
}

abbrev pub decreases-items : goal.decreases-items
decreases-items g l = l.tape.limit - l.tape.place
