use Rattle.std.proofs.Common.{◌≡◌, ◌≤◌, ◌-◌, IsTrue, None}
use Rattle.fs_changes.specs.Changes.{acting_in}
use Rattle.cmd_stages.specs.Items.{to_give}
use Rattle.fs_cli.proofs.Following.{Following}
use Rattle.fs_cli.proofs.changes.follow_items.Given as goal

abbrev pub invariant-items : goal.invariant-items
invariant-items g l = record {
  unended : l.player.tape.end ≡ None;
  slot : l.player.tape.slot ≡ l.fn.player.tape.slot;
  config : l.player.desk.config ≡ l.fn.player.desk.config;
  files_later : g.F.Files.faults l.fn.files ≤ g.F.Files.faults l.files;
  sink_later : g.S.Sink.faults l.fn.sink ≤ g.S.Sink.faults l.sink;
  opened : g.F.Files.opened l.files ≡ g.F.Files.opened l.fn.files;
  stands : l.acting ≡ acting_in l.player.desk.held;
  following : IsTrue g.F.Files.tells
      → Following l.fn.player.desk.config
      (to_give l.fn.player (g.F.Files.left l.fn.files l.fn.player.tape.slot))
      (to_give l.player (g.F.Files.left l.files l.player.tape.slot))
      (g.S.Sink.written l.fn.sink) (g.S.Sink.written l.sink) l.player.desk l.acting;
}

abbrev pub decreases-items : goal.decreases-items
decreases-items g l = l.player.tape.limit - l.player.tape.place
