use Rattle.fs_recorder.proofs.{Words.{◌==◌, Seat, seat_for}, Seating.{seen_in, known_found}, Connecting.{did_check_none, ran_check_peer}}
use Rattle.fs_recorder.proofs.recorder.Recorder.check_peer.Goals as goal

pub check-requires : goal.check-requires
check-requires g c =
    known_found c.args.self.now.books.desk.config (λ (seat : Seat). seat.peer == c.args.peer) c.args.self.now.seats _ c.requires.known
    (seen_in (seat_for c.args.peer) _ _ _ _ _ c.self.view_is c.deref.ensures.value c.seat_for.ensures c.in-Some.is)

pub returns-in-Some-clause-ran : goal.returns-in-Some-clause-ran
returns-in-Some-clause-ran g c =
    ran_check_peer c.check.result c.args.peer c.args.time c.in-Some.seat c.args.self.now c.check.new.self _ _ _ _
    (seen_in (seat_for c.args.peer) _ _ _ _ _ c.self.view_is c.deref.ensures.value c.seat_for.ensures c.in-Some.is)
    c.check.ensures.ran

pub returns-in-None-clause-ran : goal.returns-in-None-clause-ran
returns-in-None-clause-ran g c = did_check_none c.args.peer c.args.time c.args.self.now _ _
    (seen_in (seat_for c.args.peer) _ _ _ _ _ c.self.view_is c.deref.ensures.value c.seat_for.ensures c.in-None.is)
