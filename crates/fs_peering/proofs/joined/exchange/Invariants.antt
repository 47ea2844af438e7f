use Rattle.std.proofs.Common.{◌≡◌, ◌≤◌, ◌+◌, ◌-◌, false}
use Rattle.fs_peering.proofs.Exchanging.{Talking, Within}
use Rattle.fs_peering.proofs.joined.exchange.Given as goal

abbrev pub invariant-loop-flow : goal.invariant-loop-flow
invariant-loop-flow g l = record {
  later : g.W.Wire.faults l.fn.wire ≤ g.W.Wire.faults l.wire;
  first : Within (g.R.Speaker.over l.first) l.flow.first_read l.fn.limit (g.R.Speaker.own l.fn.first) (g.R.Speaker.own l.first);
  second : Within (g.A.Speaker.over l.second) (g.A.Speaker.count l.second) l.fn.limit (g.A.Speaker.own l.fn.second) (g.A.Speaker.own l.second);
  bound : l.flow.second_read ≤ l.fn.limit;
  counted : g.A.Speaker.ready l.second ≡ false → g.A.Speaker.count l.second ≡ l.flow.second_read;
  talking : Talking (g.R.Speaker.stands l.fn.first) (g.R.Speaker.stands l.first) (g.A.Speaker.stands l.fn.second)
      (g.A.Speaker.stands l.second) l.flow (g.W.Wire.tells l.fn.wire) (g.W.Wire.tells l.wire) (g.C.Clock.answers l.fn.clock)
      (g.C.Clock.answers l.clock);
}

abbrev pub decreases-loop-flow : goal.decreases-loop-flow
decreases-loop-flow g l = (l.fn.limit - l.flow.first_read) + (l.fn.limit - l.flow.second_read) + g.A.Speaker.ahead l.second
