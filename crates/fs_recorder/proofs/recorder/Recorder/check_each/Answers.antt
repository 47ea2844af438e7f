use Rattle.fs_recorder.proofs.{Words.{arith, drop, take, ◌+◌, ◌∙◌}, Sweeping.{did_more, peers_next, peers_split, broke_more}}
use Rattle.std.proofs.Common.{get_or}
use Rattle.fs_recorder.specs.Steps.{peers_in}
use Rattle.fs_recorder.proofs.recorder.Recorder.check_each.Goals as goal

pub returns-in_err-check_peer-clause-ran : goal.returns-in_err-check_peer-clause-ran
returns-in_err-check_peer-clause-ran g c =
    rw (← peers_split c.args.seats.now c.loop-seat.seat-index (record { line = 0; peer = 0; since = 0 }) c.loop-seat-test.true)
    (broke_more c.args.time (peers_in (take c.loop-seat.seat-index c.args.seats.now))
    (get_or c.args.seats.now c.loop-seat.seat-index (record { line = 0; peer = 0; since = 0 })).peer
    c.args.self.now c.loop-seat.self _ _ _ _ _ _ c.from_residual.result c.from_residual.ensures.1 _
    (peers_in (drop (c.loop-seat.seat-index + 1) c.args.seats.now)) c.loop-seat.invariant.did c.in_err-check_peer.ensures.ran)

pub loop-seat-preserved : goal.loop-seat-preserved
loop-seat-preserved g c = record {
  still = c.check_peer.ensures.still ∙ c.loop-seat.invariant.still;
  later = omega (arith, c.loop-seat.invariant.later, c.check_peer.ensures.later);
  did = rw (peers_next c.args.seats.now c.loop-seat.seat-index (record { line = 0; peer = 0; since = 0 }) c.loop-seat-test.true)
      (did_more c.args.time (peers_in (take c.loop-seat.seat-index c.args.seats.now))
      (get_or c.args.seats.now c.loop-seat.seat-index (record { line = 0; peer = 0; since = 0 })).peer
      c.args.self.now c.loop-seat.self _ _ _ _ _ _ c.check_peer.new.self c.loop-seat.invariant.did c.in_ok-check_peer.ensures.ran);
  stay = λ known. c.in_ok-check_peer.ensures.stay (c.loop-seat.invariant.stay known);
}
