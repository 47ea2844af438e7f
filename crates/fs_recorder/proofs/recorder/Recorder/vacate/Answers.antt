use Rattle.fs_recorder.proofs.{Words.{nobody, ◌==◌, Seat, seat_for}, Doing.{ok_to}, Seating.{seen_in, known_found}}
use Rattle.fs_recorder.proofs.Connecting.{did_vacate_none, ran_vacate}
use Rattle.fs_recorder.proofs.recorder.Recorder.vacate.Goals as goal

pub dismiss-requires : goal.dismiss-requires
dismiss-requires g c =
    known_found c.args.self.now.books.desk.config (λ (seat : Seat). seat.peer == c.args.peer) c.args.self.now.seats _ c.requires.known
    (seen_in (seat_for c.args.peer) _ _ _ _ _ c.self.view_is c.deref.ensures.value c.seat_for.ensures c.in-Some.is)

pub returns-in-Some-clause-ran : goal.returns-in-Some-clause-ran
returns-in-Some-clause-ran g c =
    ran_vacate c.dismiss.result c.args.peer c.in-Some.seat c.args.self.now c.dismiss.new.self _ _ _ _
    (seen_in (seat_for c.args.peer) _ _ _ _ _ c.self.view_is c.deref.ensures.value c.seat_for.ensures c.in-Some.is)
    c.dismiss.ensures.leaves c.dismiss.ensures.left c.dismiss.ensures.breaks

pub returns-in-Some-clause-config : goal.returns-in-Some-clause-config
returns-in-Some-clause-config g c = ok_to c.dismiss.result c.dismiss.ensures.leaves (λ leaves. (leaves nobody).config_is)

pub returns-in-None-clause-ran : goal.returns-in-None-clause-ran
returns-in-None-clause-ran g c = did_vacate_none c.args.peer c.args.self.now _ _
    (seen_in (seat_for c.args.peer) _ _ _ _ _ c.self.view_is c.deref.ensures.value c.seat_for.ensures c.in-None.is)
