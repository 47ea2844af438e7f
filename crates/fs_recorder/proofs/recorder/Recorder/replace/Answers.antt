use Rattle.fs_recorder.proofs.{Words.{subst, sym, Config, IsSome, peer_of}, Connecting.{ran_replace, broke_replace}}
use Rattle.fs_recorder.proofs.recorder.Recorder.replace.Goals as goal

pub returns-in_err-vacate-clause-ran : goal.returns-in_err-vacate-clause-ran
returns-in_err-vacate-clause-ran g c =
    broke_replace c.from_residual.result c.from_residual.ensures.1 c.args.line c.args.peer c.args.since c.args.self.now _ _ _ _ _
    (c.ranges.peer.fits, c.requires.peer) c.in_err-vacate.ensures.ran

pub seat-requires : goal.seat-requires
seat-requires g c = subst (λ (config : Config). IsSome (peer_of c.args.peer config.peers)) (sym c.in_ok-vacate.ensures.config) c.requires.peer

pub returns-clause-ran : goal.returns-clause-ran
returns-clause-ran g c =
    ran_replace c.seat.result c.args.line c.args.peer c.args.since c.args.self.now c.vacate.new.self c.seat.new.self _ _ _ _ _ c.in_ok-vacate.ensures.ran
    c.seat.ensures.ran
