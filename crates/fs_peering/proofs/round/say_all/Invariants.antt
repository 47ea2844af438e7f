use Rattle.fs_peering.proofs.Words.{Told, ◌≤◌, ◌≡◌, Spoken}
use Rattle.fs_peering.proofs.round.say_all.Given as goal

abbrev pub invariant-messages : goal.invariant-messages
invariant-messages g l = record {
  later : g.W.Wire.faults l.fn.wire ≤ g.W.Wire.faults l.wire;
  spoken : Told (Spoken (g.S.Speaker.stands l.fn.speaker) (g.S.Speaker.stands l.speaker) l.fn.end) (g.W.Wire.tells l.fn.wire)
      (g.W.Wire.tells l.wire);
  over : g.S.Speaker.over l.speaker ≡ g.S.Speaker.over l.fn.speaker;
  shut : g.S.Speaker.shut l.speaker ≡ g.S.Speaker.shut l.fn.speaker;
  ready : g.S.Speaker.ready l.speaker ≡ g.S.Speaker.ready l.fn.speaker;
  own : g.S.Speaker.own l.speaker ≡ g.S.Speaker.own l.fn.speaker;
  count : g.S.Speaker.count l.speaker ≡ g.S.Speaker.count l.fn.speaker;
}

abbrev pub decreases-messages : goal.decreases-messages
decreases-messages g l = g.S.Speaker.ahead l.speaker
