use Rattle.fs_recorder.proofs.{Words.{◌≡◌, ap, subst, KeepsOthers, Plays, Booked, ◌∙◌, Recording, was_lost, without}, Doing.{ok_both, ok_to}}
use Rattle.fs_recorder.proofs.Seating.{known_left}
use Rattle.fs_recorder.proofs.recorder.Recorder.lose.Goals as goal

pub returns-clause-told : goal.returns-clause-told
returns-clause-told g c = rw (← c.self.view_is) c.lost.ensures.told

pub returns-clause-stay : goal.returns-clause-stay
returns-clause-stay g c = ok_to c.lost.result c.lost.ensures.told
    (λ told. λ known.
    known_left c.args.self.now c.lost.new.self.desk.config c.args.seat.line c.remove.new.seats.items
    (told.config_is ∙ ap (λ (r : Recording). r.books.desk.config) c.self.view_is)
    (c.remove.ensures ∙ ap (λ (r : Recording). without c.args.seat.line r.seats) c.self.view_is) known)

pub returns-clause-err : goal.returns-clause-err
returns-clause-err g c = rw (← c.self.view_is) c.lost.ensures.err

pub returns-clause-left : goal.returns-clause-left
returns-clause-left g c =
    let books : c.self.inside.books ≡ c.args.self.now.books = ap (λ (r : Recording). r.books) c.self.view_is in
    ok_both c.lost.result c.lost.ensures.told c.lost.ensures.others
    (λ told others. record {
      plays = subst (λ (b : Booked). Plays (was_lost c.args.seat.peer) b.desk c.lost.new.self.desk) books told.plays;
      seats_are = c.remove.ensures ∙ ap (λ (r : Recording). without c.args.seat.line r.seats) c.self.view_is;
      others = subst (λ (b : Booked). KeepsOthers c.args.seat.peer b.desk c.lost.new.self.desk) books others;
      door_is = ap (λ (r : Recording). r.door) c.self.view_is;
    })
