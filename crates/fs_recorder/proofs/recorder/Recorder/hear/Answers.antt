use Rattle.fs_recorder.proofs.Words.{drop, map, refl, shut, subst, sym, true, ◌∙◌, ◌≡◌, AreKnown, Grew, Recording, passing, RanHear, RanSo, broken}
use Rattle.fs_recorder.proofs.{Words.{done}, Doing.{ok_to}, Sweeping.{passed_as, short_what, ran_due, broke_follow}, Waiting.{changed_as}}
use Rattle.fs_base.specs.Gate.{what_from}
use Rattle.fs_recorder.specs.Door.{is_due, late_lines, swept_at}
use Rattle.fs_recorder.specs.Steps.{door_with, follows, sweeps_all}
use Rattle.fs_recorder.proofs.recorder.Recorder.hear.Goals as goal

pub returns-in_err-follow-clause-ran : goal.returns-in_err-follow-clause-ran
returns-in_err-follow-clause-ran g c =
    broke_follow c.from_residual.result c.from_residual.ensures.1 c.args.self.now.books.desk.config c.args.event.time
    (what_from c.args.event.came (drop 15 c.args.buffer.now)) _ (passing c.args.event.moment c.args.self.now) _ _ _ _ _ refl
    (short_what c.args.event.came c.args.buffer.now c.requires.long)
    (subst (λ (r : Recording). RanSo (broken c.in_err-follow.field-0.0)
    (follows r.books.desk.config r.door.guests c.args.event.time (what_from c.args.event.came (drop 15 c.args.buffer.now))) r c.follow.new.self
    (g.G.Gate.turns c.args.gate.now) (g.G.Gate.turns c.follow.new.gate) (g.S.Sink.written c.args.sink.now) (g.S.Sink.written c.follow.new.sink))
    (passed_as c.args.event.moment _ c.args.self.now c.pass.new.self c.pass.ensures c.self.view_is)
    c.in_err-follow.ensures.ran)

pub returns-clause-ran : goal.returns-clause-ran
returns-clause-ran g c =
    ran_due c.args.self.now.books.desk.config c.args.event.time (what_from c.args.event.came (drop 15 c.args.buffer.now))
    (passing c.args.event.moment c.args.self.now) c.follow.new.self _ _ _ _
    (subst (λ (r : Recording). is_due r.door.swept c.args.event.time ≡ true) c.self-2.view_is (sym c.is_due.ensures ∙ c.if-not-is_due.false))
    (subst (λ (r : Recording). RanHear done
    (door_with r.books.desk.config c.args.event.time (what_from c.args.event.came (drop 15 c.args.buffer.now)) r.seats r.door)
    (follows r.books.desk.config r.door.guests c.args.event.time (what_from c.args.event.came (drop 15 c.args.buffer.now)))
    r c.follow.new.self (g.G.Gate.turns c.args.gate.now) (g.G.Gate.turns c.follow.new.gate) (g.S.Sink.written c.args.sink.now)
    (g.S.Sink.written c.follow.new.sink))
    (passed_as c.args.event.moment _ c.args.self.now c.pass.new.self c.pass.ensures c.self.view_is)
    c.in_ok-follow.ensures.ran)
    _ _ _
    (subst (λ (r : Recording). Grew (g.G.Gate.turns c.follow.new.gate) (g.G.Gate.turns c.clear.new.gate)
    (map shut (late_lines c.args.event.time r.door.guests))) c.self-2.view_is c.clear.ensures.closed) c.sweep.result c.sweep.new.self
    (subst (λ (r : Recording). RanSo c.sweep.result (sweeps_all c.args.event.time) r c.sweep.new.self
    (g.G.Gate.turns c.clear.new.gate) (g.G.Gate.turns c.sweep.new.gate) (g.S.Sink.written c.follow.new.sink) (g.S.Sink.written c.sweep.new.sink))
    (changed_as (swept_at c.args.event.time) c.clear.new.self _ c.follow.new.self c.clear.ensures.swept c.self-2.view_is) c.sweep.ensures.ran)

pub returns-clause-stay : goal.returns-clause-stay
returns-clause-stay g c = ok_to c.sweep.result c.sweep.ensures.stay
    (λ stay. λ known. stay
    (subst (λ (r : Recording). AreKnown r.books.desk.config r.seats) (sym c.self-2.view_is)
    (c.in_ok-follow.ensures.stay
    (subst (λ (r : Recording). AreKnown r.books.desk.config r.seats)
    (sym (passed_as c.args.event.moment _ c.args.self.now c.pass.new.self c.pass.ensures c.self.view_is)) known))))
