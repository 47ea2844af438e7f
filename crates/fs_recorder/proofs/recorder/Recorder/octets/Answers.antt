use Rattle.fs_recorder.proofs.{Words.{drop, ◌==◌, Seat, seat_of, speaks}, Seating.{seen_in, known_found}, Stepping.{did_no_line, ran_line}}
use Rattle.fs_recorder.proofs.recorder.Recorder.octets.Goals as goal

pub speak-requires-clause-known : goal.speak-requires-clause-known
speak-requires-clause-known g c =
    known_found c.args.self.now.books.desk.config (λ (seat : Seat). seat.line == c.args.line) c.args.self.now.seats _ c.requires.known
    (seen_in (seat_of c.args.line) _ _ _ _ _ c.self.view_is c.deref.ensures.value c.seat_of.ensures c.in-Some.is)

pub returns-in-Some-clause-ran : goal.returns-in-Some-clause-ran
returns-in-Some-clause-ran g c =
    ran_line c.speak.result c.args.line c.in-Some.seat (λ place. speaks c.args.self.now.books.desk.config c.args.time place (drop 15 c.args.piece.now))
    c.args.self.now _ _ _ _ _
    (seen_in (seat_of c.args.line) _ _ _ _ _ c.self.view_is c.deref.ensures.value c.seat_of.ensures c.in-Some.is)
    c.speak.ensures.ran

pub returns-in-None-clause-ran : goal.returns-in-None-clause-ran
returns-in-None-clause-ran g c =
    did_no_line c.args.line (λ place. speaks c.args.self.now.books.desk.config c.args.time place (drop 15 c.args.piece.now)) c.args.self.now _ _
    (seen_in (seat_of c.args.line) _ _ _ _ _ c.self.view_is c.deref.ensures.value c.seat_of.ensures c.in-None.is)
