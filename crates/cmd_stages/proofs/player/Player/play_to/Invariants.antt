use Rattle.cmd_stages.proofs.Words.{◌≡◌, ◌≤◌, List, [], None, IsTrue, false, OnlySlot, Covers, Timed, IsOpenOrDone, Stands, due_item}
use Rattle.cmd_stages.proofs.LookingAhead.{ahead_left}
use Rattle.cmd_stages.proofs.player.Player.play_to.Given as goal

abbrev pub invariant-items : goal.invariant-items
invariant-items g l = record {
  stays : record {
    slot : l.self.tape.slot ≡ l.fn.self.tape.slot;
    config : l.self.desk.config ≡ l.fn.self.desk.config;
    later : g.F.Files.faults l.fn.files ≤ g.F.Files.faults l.files;
    opened : g.F.Files.opened l.files ≡ g.F.Files.opened l.fn.files;
    others : OnlySlot g.F.Files.tells g.F.Files.left g.F.Files.holds l.fn.self.tape.slot l.fn.files l.files;
  };
  ends : IsOpenOrDone l.fn.self.tape l.fn.self.ahead → IsOpenOrDone l.self.tape l.self.ahead;
  told : Covers l.fn.self.desk.held l.self.desk.changes l.self.desk.held;
  calm : due_item l.fn.self.ahead l.fn.self.tape.moment l.moment ≡ None
      → (l.self.desk.changes ≡ record { places = []; all = false }) × (due_item l.self.ahead l.self.tape.moment l.moment ≡ None);
  played : IsTrue g.F.Files.tells → (items : List Timed) → Stands items l.moment l.fn.self (g.F.Files.left l.fn.files l.fn.self.tape.slot)
      → Stands items l.moment l.self (g.F.Files.left l.files l.fn.self.tape.slot);
}

-- one more than is left behind the item ahead
abbrev pub decreases-items : goal.decreases-items
decreases-items g l = ahead_left l.self.ahead l.self.tape.limit l.self.tape.place
