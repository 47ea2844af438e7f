use Rattle.fs_input.proofs.Words.{◌≡◌, ◌≤◌, ◌-◌, [], None, length, IsTrue, part_in, told_ahead, PassesIn}
use Rattle.fs_input.proofs.reading.next_told.Given as goal

abbrev pub invariant-parts : goal.invariant-parts
invariant-parts g l =
    let chain = part_in g.P.Parts.first (g.P.Parts.behind l.given) in
    record {
      room : length l.into ≡ length l.fn.into;
      straight : l.fn.counted.back ≡ [] → l.counted.back ≡ [];
      place : l.fn.counted.taken ≤ l.counted.taken;
      moves : g.P.Parts.Moves l.fn.parts l.parts None;
      passes : PassesIn g.F.Files l.fn.files l.files l.fn.counted l.counted;
      coming :
          IsTrue g.F.Files.tells
          → told_ahead chain g.P.Parts.cut l.fn.counted l.fn.parts (g.F.Files.left l.fn.files l.fn.counted.slot)
          ≡ told_ahead chain g.P.Parts.cut l.counted l.parts (g.F.Files.left l.files l.counted.slot);
    }

abbrev pub decreases-parts : goal.decreases-parts
decreases-parts g l = l.counted.limit - l.counted.taken
