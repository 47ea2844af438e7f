use Rattle.fs_speaker.proofs.Words.{◌≡◌, ℕ, List, [], ap, ◌∙◌, subst, on_ok_weaker, arith, Update, Live, line_of, receiver, Announcing, machine_in}
use Rattle.fs_speaker.proofs.Words.{HandsOver, Both, both, Becomes, Flying, flying, sent, delivers}
use Rattle.fs_speaker.proofs.Happening.{handed_behind, taker_delivered, teller_delivered}
use Rattle.fs_speaker.proofs.ends.Ends.deliver.Goals as goal

pub returns-then-to-eq0-clause-ok : goal.returns-then-to-eq0-clause-ok
returns-then-to-eq0-clause-ok c =
    let taker : Live = c.self.inside.taker in
    let flight : Flying = c.take_taker.new.self in
    let old : Both = both taker c.self.inside.teller c.self.inside.flight c.self.inside.taken.items in
    let new : Both = both c.hand.new.end c.self.inside.teller c.tell_teller.new.self c.append.new.self.items in
    rw c.if-to-eq0.true
    (subst (λ (o : Both). Becomes (λ config peer sending. delivers config peer sending 0 c.args.count c.args.moment) o new) c.self.view_is
    (λ config peer sending w here. taker_delivered config peer sending w old here c.hand.new.end flight c.tell_teller.new.self c.append.new.self.items
    c.deref.result.now c.hand.new.out.items
    c.args.count c.args.moment (c.deref.ensures.value ∙ c.in_ok-piece.ensures.0) c.in_ok-piece.ensures.1 c.in_ok-hand.ensures.own
    (handed_behind (receiver taker.config taker.peer) c.args.moment (line_of taker)
    (line_of c.hand.new.end) c.deref.result.now c.self.inside.taken.items c.hand.new.taken.items c.append.new.self.items c.hand.new.out.items
    (subst (λ (z : List ℕ). HandsOver (receiver taker.config taker.peer) c.args.moment (line_of taker)
    (line_of c.hand.new.end) c.deref.result.now [] c.hand.new.taken.items z c.hand.new.out.items)
    c.new-said.ensures.items
    (subst (λ (u : List Update). HandsOver (receiver taker.config taker.peer) c.args.moment (line_of taker)
    (line_of c.hand.new.end) c.deref.result.now u c.hand.new.taken.items c.new-said.result.items c.hand.new.out.items)
    c.new-updates.ensures.items c.in_ok-hand.ensures.hands))
    c.in_ok-append.ensures.items)
    (c.in_ok-tell_teller.ensures ∙ ap (λ (z : List ℕ). flying flight.to_taker (sent flight.cut flight.to_teller z) flight.cut)
    c.deref-then-to-eq0.ensures.value)))

pub returns-clause-ok : goal.returns-clause-ok
returns-clause-ok c =
    let one : c.args.to ≡ 1 = omega (arith, c.requires, c.if-to-eq0.false) in
    let teller : Announcing = c.self.inside.teller in
    let flight : Flying = c.take_teller.new.self in
    let old : Both = both c.self.inside.taker teller c.self.inside.flight c.self.inside.taken.items in
    let new : Both = both c.self.inside.taker c.hand-2.new.end c.tell_taker.new.self c.self.inside.taken.items in
    rw one
    (on_ok_weaker c.tell_taker.result
    (λ put. subst (λ (o : Both). Becomes (λ config peer sending. delivers config peer sending 1 c.args.count c.args.moment) o new) c.self.view_is
    (λ config peer sending w here. teller_delivered config peer sending w old here c.hand-2.new.end flight c.tell_taker.new.self
    c.hand-2.new.taken.items c.deref-2.result.now c.hand-2.new.out.items
    c.args.count c.args.moment (c.deref-2.ensures.value ∙ c.in_ok-piece-2.ensures.0) c.in_ok-piece-2.ensures.1 c.in_ok-hand-2.ensures.own
    (subst (λ (z : List ℕ). HandsOver (machine_in teller) c.args.moment teller.line c.hand-2.new.end.line c.deref-2.result.now []
    c.hand-2.new.taken.items z c.hand-2.new.out.items)
    c.new-said.ensures.items
    (subst (λ (u : List Update). HandsOver (machine_in teller) c.args.moment teller.line c.hand-2.new.end.line c.deref-2.result.now u
    c.hand-2.new.taken.items c.new-said.result.items c.hand-2.new.out.items)
    c.new-updates.ensures.items c.in_ok-hand-2.ensures.hands))
    (put ∙ ap (λ (z : List ℕ). flying (sent flight.cut flight.to_taker z) flight.to_teller flight.cut) c.deref-3.ensures.value)))
    c.tell_taker.ensures)
