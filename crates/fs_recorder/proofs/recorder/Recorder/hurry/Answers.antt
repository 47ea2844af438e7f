use Rattle.fs_recorder.proofs.{Words.{ap, sym, ◌∙◌, Recording, stands_established, standing_at_desk}, Stepping.{did_not_hurry, ran_hurry}}
use Rattle.fs_recorder.proofs.recorder.Recorder.hurry.Goals as goal

pub returns-then-is_established-clause-ran : goal.returns-then-is_established-clause-ran
returns-then-is_established-clause-ran g c =
    did_not_hurry c.args.seat c.args.self.now _ _
    (sym (c.is_established.ensures ∙ ap stands_established c.standing.ensures
    ∙ ap (λ (r : Recording). stands_established (standing_at_desk r.books.desk c.args.seat.peer)) c.self.view_is) ∙ c.if-is_established.true)

pub returns-clause-ran : goal.returns-clause-ran
returns-clause-ran g c =
    ran_hurry c.dismiss.result c.args.seat c.args.self.now _ _ _ _ _ _
    (sym (c.is_established.ensures ∙ ap stands_established c.standing.ensures
    ∙ ap (λ (r : Recording). stands_established (standing_at_desk r.books.desk c.args.seat.peer)) c.self.view_is) ∙ c.if-is_established.false)
    c.send.ensures.sent c.dismiss.ensures.leaves c.dismiss.ensures.left c.dismiss.ensures.breaks
