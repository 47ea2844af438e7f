use Rattle.std.proofs.Common.{◌≡◌, length}
use Rattle.fs_speaker.proofs.Handover.{Going}
use Rattle.fs_speaker.proofs.end.hand.Given as goal

abbrev pub invariant-loop-count : goal.invariant-loop-count
invariant-loop-count g l = record {
  same : g.E.End.machine l.end ≡ g.E.End.machine l.fn.end;
  own : g.E.End.own l.end ≡ g.E.End.own l.fn.end;
  going :
      Going
      (g.E.End.machine l.fn.end)
      l.moment
      (g.E.End.line l.fn.end)
      (g.E.End.line l.end)
      l.fn.piece
      l.rest
      l.fn.taken.items
      l.taken.items
      l.fn.out.items
      l.out.items;
}

abbrev pub decreases-loop-count : goal.decreases-loop-count
decreases-loop-count g l = length l.rest
