use Rattle.std.specs.List.{AllByRecursion}
use Rattle.cmd_convert.proofs.Words.{◌≡◌, ◌≤◌, ◌-◌, IsTrue, None, length}
use Rattle.fs_mrt.specs.Notes.{notes_coming}
use Rattle.cmd_convert.specs.{Survey.{all_noted}, declared.counts.NoteCount.{NoteCount}}
use Rattle.cmd_convert.proofs.survey.count_notes.Given as goal

abbrev pub invariant-records : goal.invariant-records
invariant-records g l = record {
  room : 65536 ≤ length l.buffer;
  unended : l.dump.end ≡ None;
  slot : l.dump.slot ≡ l.fn.dump.slot;
  limit : l.dump.limit ≡ l.fn.dump.limit;
  few : AllByRecursion (λ (count : NoteCount). count.count ≤ l.dump.place) l.counts.items;
  within : l.dump.place ≤ l.dump.limit;
  later : g.F.Files.faults l.fn.files ≤ g.F.Files.faults l.files;
  opened : g.F.Files.opened l.files ≡ g.F.Files.opened l.fn.files;
  ends : IsTrue g.F.Files.tells
      → (notes_coming l.config l.fn.dump (g.F.Files.left l.fn.files l.fn.dump.slot)).1
      ≡ (notes_coming l.config l.dump (g.F.Files.left l.files l.fn.dump.slot)).1;
  counts : IsTrue g.F.Files.tells
      → all_noted l.fn.counts.items (notes_coming l.config l.fn.dump (g.F.Files.left l.fn.files l.fn.dump.slot)).0
      ≡ all_noted l.counts.items (notes_coming l.config l.dump (g.F.Files.left l.files l.fn.dump.slot)).0;
}

abbrev pub decreases-records : goal.decreases-records
decreases-records g l = l.dump.limit - l.dump.place
