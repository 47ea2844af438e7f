use Rattle.fs_speaker.proofs.Words.{◌≡◌, ℕ, List, ap, ◌∙◌, subst, on_ok_weaker, arith, Live, line_of, receiver, Announcing, machine_in, TicksOver}
use Rattle.fs_speaker.proofs.Words.{Both, both, Becomes, Flying, flying, sent, wakes}
use Rattle.fs_speaker.proofs.Happening.{taker_woke, teller_woke}
use Rattle.fs_speaker.proofs.ends.Ends.wake.Goals as goal

pub returns-then-end-eq0-clause-ok : goal.returns-then-end-eq0-clause-ok
returns-then-end-eq0-clause-ok c =
    let taker : Live = c.self.inside.taker in
    let flight : Flying = c.self.inside.flight in
    let old : Both = both taker c.self.inside.teller flight c.self.inside.taken.items in
    let new : Both = both c.tick.new.end c.self.inside.teller c.tell_teller.new.self c.self.inside.taken.items in
    rw c.if-end-eq0.true
    (on_ok_weaker c.tell_teller.result
    (λ put. subst (λ (o : Both). Becomes (λ config peer sending. wakes config peer sending 0 c.args.moment) o new) c.self.view_is
    (λ config peer sending w here. taker_woke config peer sending w old here c.tick.new.end c.tell_teller.new.self c.tick.new.out.items c.args.moment
    c.in_ok-tick.ensures.own
    (subst (λ (z : List ℕ). TicksOver (receiver taker.config taker.peer) c.args.moment (line_of taker)
    (line_of c.tick.new.end) z c.tick.new.out.items) c.new-said.ensures.items c.in_ok-tick.ensures.ticks)
    (put ∙ ap (λ (z : List ℕ). flying flight.to_taker (sent flight.cut flight.to_teller z) flight.cut) c.deref.ensures.value)))
    c.tell_teller.ensures)

pub returns-clause-ok : goal.returns-clause-ok
returns-clause-ok c =
    let one : c.args.end ≡ 1 = omega (arith, c.requires, c.if-end-eq0.false) in
    let teller : Announcing = c.self.inside.teller in
    let flight : Flying = c.self.inside.flight in
    let old : Both = both c.self.inside.taker teller flight c.self.inside.taken.items in
    let new : Both = both c.self.inside.taker c.tick-2.new.end c.tell_taker.new.self c.self.inside.taken.items in
    rw one
    (on_ok_weaker c.tell_taker.result
    (λ put. subst (λ (o : Both). Becomes (λ config peer sending. wakes config peer sending 1 c.args.moment) o new) c.self.view_is
    (λ config peer sending w here. teller_woke config peer sending w old here c.tick-2.new.end c.tell_taker.new.self c.tick-2.new.out.items
    c.args.moment c.in_ok-tick-2.ensures.own
    (subst (λ (z : List ℕ). TicksOver (machine_in teller) c.args.moment teller.line c.tick-2.new.end.line z c.tick-2.new.out.items)
    c.new-said.ensures.items c.in_ok-tick-2.ensures.ticks)
    (put ∙ ap (λ (z : List ℕ). flying (sent flight.cut flight.to_taker z) flight.to_teller flight.cut) c.deref-2.ensures.value)))
    c.tell_taker.ensures)
