use Rattle.cmd_enforce.proofs.Words.{◌≡◌, ◌≤◌, ◌-◌, List, IsTrue, coming, Timed, IsOpenOrDone, Stands, IsCompiled, Follows, judging, progress, None, IsRead}
use Rattle.cmd_enforce.proofs.judge.judge_packets.Given as goal

abbrev pub invariant-changes : goal.invariant-changes
invariant-changes g l = record {
  reads : IsRead l.capture l.buffer;
  number : l.lines.number ≤ l.capture.place;
  tape : l.following.player.tape.slot ≡ 1;
  ends : IsOpenOrDone l.following.player.tape l.following.player.ahead;
  config : l.following.player.desk.config ≡ l.fn.following.player.desk.config;
  compiled : IsCompiled l.following.player.desk.held l.following.rules;
  still : l.fn.following.player.ahead ≡ None
      → (l.sink ≡ l.fn.sink) × (l.files ≡ l.fn.files) × (l.capture ≡ l.fn.capture) × (l.lines.output ≡ l.fn.lines.output) × (l.following.player.ahead ≡ None);
  files_later : g.F.Files.faults l.fn.files ≤ g.F.Files.faults l.files;
  sink_later : g.S.Sink.faults l.fn.sink ≤ g.S.Sink.faults l.sink;
  opened : g.F.Files.opened l.files ≡ g.F.Files.opened l.fn.files;
  judged : IsTrue g.F.Files.tells → (items : List Timed) → Stands items l.fn.capture.moment l.fn.following.player (g.F.Files.left l.fn.files 1)
      → Stands items l.capture.moment l.following.player (g.F.Files.left l.files 1)
      × Follows (judging l.fn.following.player.desk.config items (coming l.fn.capture (g.F.Files.left l.fn.files 2))
      (g.S.Sink.written l.fn.sink) l.fn.lines.output)
      (progress (coming l.capture (g.F.Files.left l.files 2)) (g.S.Sink.written l.sink) l.lines.output l.lines.number);
}

abbrev pub decreases-changes : goal.decreases-changes
decreases-changes g l = l.capture.limit - l.capture.place
