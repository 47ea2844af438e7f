use Rattle.cmd_enforce.proofs.Words.{◌≡◌, ◌≤◌, ◌-◌, IsTrue, vec_capacity, coming, Stands, HasRoom, Follows, Judging, progress, IsRead}
use Rattle.cmd_enforce.proofs.judge.judge_on.Given as goal

abbrev pub invariant-packets : goal.invariant-packets
invariant-packets g l = record {
  reads : IsRead l.capture l.buffer;
  limit : l.capture.limit ≡ l.fn.capture.limit;
  start : l.fn.capture.place ≤ l.capture.place;
  number : l.lines.number ≤ l.capture.place;
  walks : HasRoom l.rules (vec_capacity l.walked);
  files_later : g.F.Files.faults l.fn.files ≤ g.F.Files.faults l.files;
  sink_later : g.S.Sink.faults l.fn.sink ≤ g.S.Sink.faults l.sink;
  opened : g.F.Files.opened l.files ≡ g.F.Files.opened l.fn.files;
  judged : IsTrue g.F.Files.tells → (work : Judging) → Stands work.items l.fn.capture.moment l.following.player (g.F.Files.left l.fn.files 1)
      → Follows work (progress (coming l.fn.capture (g.F.Files.left l.fn.files 2)) (g.S.Sink.written l.fn.sink) l.fn.lines.output l.fn.lines.number)
      → work.config ≡ l.following.player.desk.config
      → Stands work.items l.capture.moment l.following.player (g.F.Files.left l.files 1)
      × Follows work (progress (coming l.capture (g.F.Files.left l.files 2)) (g.S.Sink.written l.sink) l.lines.output l.lines.number);
}

abbrev pub decreases-packets : goal.decreases-packets
decreases-packets g l = l.capture.limit - l.capture.place
