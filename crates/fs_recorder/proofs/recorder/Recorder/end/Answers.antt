use Rattle.fs_recorder.proofs.{Words.{◌==◌, Seat, seat_of}, Seating.{seen_in, known_found}, Connecting.{did_end_none, ran_end}}
use Rattle.fs_recorder.proofs.recorder.Recorder.end.Goals as goal

pub lose-requires : goal.lose-requires
lose-requires g c =
    known_found c.args.self.now.books.desk.config (λ (seat : Seat). seat.line == c.args.line) c.args.self.now.seats _ c.requires.known
    (seen_in (seat_of c.args.line) _ _ _ _ _ c.self.view_is c.deref.ensures.value c.seat_of.ensures c.in-Some.is)

pub returns-in-Some-clause-ran : goal.returns-in-Some-clause-ran
returns-in-Some-clause-ran g c =
    ran_end c.lose.result c.args.line c.in-Some.seat c.args.self.now c.lose.new.self _ _
    (seen_in (seat_of c.args.line) _ _ _ _ _ c.self.view_is c.deref.ensures.value c.seat_of.ensures c.in-Some.is)
    c.lose.ensures.told c.lose.ensures.left c.lose.ensures.err

pub returns-in-None-clause-ran : goal.returns-in-None-clause-ran
returns-in-None-clause-ran g c = did_end_none c.args.line c.args.self.now _
    (seen_in (seat_of c.args.line) _ _ _ _ _ c.self.view_is c.deref.ensures.value c.seat_of.ensures c.in-None.is)
