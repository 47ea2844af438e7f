use Rattle.fs_peering.proofs.Words.{◌≡◌, ◌≤◌, ◌<◌, ◌-◌, false, Listens}
use Rattle.fs_peering.proofs.listening.hear_out.Given as goal

abbrev pub invariant-loop-round : goal.invariant-loop-round
invariant-loop-round g l = record {
  later : g.W.Wire.faults l.fn.wire ≤ g.W.Wire.faults l.wire;
  within : g.S.Speaker.count l.speaker < l.fn.limit;
  opened : g.S.Speaker.over l.speaker ≡ false;
  sent : g.S.Speaker.sent l.speaker ≡ g.S.Speaker.sent l.fn.speaker;
  own : g.S.Speaker.own l.speaker ≡ g.S.Speaker.own l.fn.speaker;
  listens : Listens (g.S.Speaker.stands l.fn.speaker) (g.S.Speaker.stands l.speaker) l.fn.end (g.S.Speaker.count l.fn.speaker)
      (g.S.Speaker.count l.speaker) (g.W.Wire.tells l.fn.wire) (g.W.Wire.tells l.wire) (g.C.Clock.answers l.fn.clock)
      (g.C.Clock.answers l.clock);
}

abbrev pub decreases-loop-round : goal.decreases-loop-round
decreases-loop-round g l = l.fn.limit - g.S.Speaker.count l.speaker
