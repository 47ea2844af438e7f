use Rattle.fs_recorder.proofs.{Words.{subst, sym, drop, AreKnown, Recording, RanHear, RanSo}, Doing.{ok_to}, Waiting.{changed_as, ran_door, ran_came}}
use Rattle.std.proofs.lemmas.List.{drop-take}
use Rattle.fs_recorder.specs.Door.{without_guest}
use Rattle.fs_recorder.specs.Steps.{ends, gives}
use Rattle.fs_recorder.proofs.recorder.Recorder.follow.Goals as goal

pub returns-in-Taken-clause-ran : goal.returns-in-Taken-clause-ran
returns-in-Taken-clause-ran g c =
    ran_came c.come.result c.args.self.now.books.desk.config c.args.event.time (drop 15 c.args.buffer.now) _ _ c.args.self.now c.come.new.self _ _ _ _
    c.in-Taken.is c.come.ensures.ran

pub returns-in-Octets-clause-ran : goal.returns-in-Octets-clause-ran
returns-in-Octets-clause-ran g c =
    ran_came c.give.result c.args.self.now.books.desk.config c.args.event.time (drop 15 c.args.buffer.now) _ _ c.args.self.now c.give.new.self _ _ _ _
    c.in-Octets.is
    (subst (λ piece. RanHear c.give.result (without_guest c.in-Octets.line c.args.self.now.door)
    (gives c.args.self.now.books.desk.config c.in-Octets.line c.args.event.time piece c.args.self.now.door.guests)
    c.args.self.now c.give.new.self (g.G.Gate.turns c.args.gate.now) (g.G.Gate.turns c.give.new.gate) (g.S.Sink.written c.args.sink.now)
    (g.S.Sink.written c.give.new.sink))
    (drop-take 15 c.in-Octets.count c.args.buffer.now) c.give.ensures.ran)

pub returns-in-Ended-clause-ran : goal.returns-in-Ended-clause-ran
returns-in-Ended-clause-ran g c =
    ran_came c.end.result c.args.self.now.books.desk.config c.args.event.time (drop 15 c.args.buffer.now) _ _ c.args.self.now c.end.new.self _ _ _ _
    c.in-Ended.is
    (ran_door c.end.result (without_guest c.in-Ended.line c.args.self.now.door) (ends c.in-Ended.line) c.args.self.now c.end.new.self _ _ _ _
    (subst (λ (r : Recording). RanSo c.end.result (ends c.in-Ended.line) r c.end.new.self (g.G.Gate.turns c.args.gate.now)
    (g.G.Gate.turns c.args.gate.now) (g.S.Sink.written c.args.sink.now) (g.S.Sink.written c.end.new.sink))
    (changed_as (without_guest c.in-Ended.line) c.call.new.self _ c.args.self.now c.call.ensures.left c.self.view_is)
    (c.end.ensures.ran (g.G.Gate.turns c.args.gate.now))))

pub returns-in-Ended-clause-stay : goal.returns-in-Ended-clause-stay
returns-in-Ended-clause-stay g c = ok_to c.end.result c.end.ensures.stay
    (λ stay. λ known. stay (subst (λ (r : Recording). AreKnown r.books.desk.config r.seats) (sym c.self.view_is) known))
