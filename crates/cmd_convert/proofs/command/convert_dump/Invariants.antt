use Rattle.cmd_convert.proofs.{Words.{◌≡◌, ◌≤◌, ◌-◌, length, IsTrue, None, coming, lives_of}, Converting.{Doing}}
use Rattle.cmd_convert.proofs.command.convert_dump.Given as goal

abbrev pub invariant-records : goal.invariant-records
invariant-records g l = record {
  room : 65536 ≤ length l.buffer;
  unended : l.dump.end ≡ None;
  slot : l.dump.slot ≡ l.fn.dump.slot;
  limit : l.dump.limit ≡ l.fn.dump.limit;
  within : l.dump.place ≤ l.dump.limit;
  config : l.making.config ≡ l.fn.making.config;
  files_later : g.F.Files.faults l.fn.files ≤ g.F.Files.faults l.files;
  sink_later : g.S.Sink.faults l.fn.sink ≤ g.S.Sink.faults l.sink;
  opened : g.F.Files.opened l.files ≡ g.F.Files.opened l.fn.files;
  doing : IsTrue g.F.Files.tells
      → Doing l.fn.making.config (lives_of l.fn.making.lives) (lives_of l.making.lives)
      (coming l.fn.making.config l.fn.dump (g.F.Files.left l.fn.files l.fn.dump.slot))
      (coming l.fn.making.config l.dump (g.F.Files.left l.files l.dump.slot))
      (g.S.Sink.written l.fn.sink) (g.S.Sink.written l.sink) l.fn.making.pending l.making.pending;
}

abbrev pub decreases-records : goal.decreases-records
decreases-records g l = l.dump.limit - l.dump.place
