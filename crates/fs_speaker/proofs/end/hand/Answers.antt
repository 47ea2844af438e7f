use Rattle.fs_speaker.proofs.Words.{rules, refl, ◌∙◌, List, sym, subst, drop, take_rest, on_ok_weaker, Update, HandsOver}
use Rattle.fs_speaker.proofs.Handover.{Going, going_start, going_more, hands_all, hands_closed, rest_none}
use Rattle.fs_speaker.proofs.end.hand.Goals as goal

pub loop-count-init : goal.loop-count-init
loop-count-init g c = record {
  same = refl;
  own = refl;
  going = going_start (g.E.End.machine c.args.end.now) c.args.moment (g.E.End.line c.args.end.now) c.args.piece.now c.args.taken.now.items c.args.out.now.items;
}

pub returns-in-Err-clause-hands : goal.returns-in-Err-clause-hands
returns-in-Err-clause-hands g c =
    on_ok_weaker c.closes.result
    (λ other.
    hands_closed (g.E.End.machine c.args.end.now) c.args.moment (g.E.End.line c.args.end.now) (g.E.End.line c.loop-count.end)
    (g.E.End.line c.take-fed.new.self) c.args.piece.now c.loop-count.rest.now
    c.args.taken.now.items c.loop-count.taken.items c.args.out.now.items c.loop-count.out.items c.take-fed.new.out.items c.in-Err.why c.take-fed.result
    (search rules) other c.loop-count.invariant.going c.take-fed.ensures.again
    (rw c.loop-count.invariant.same at c.take-fed.ensures.exact) c.take-fed.ensures.closed)
    c.closes.ensures

pub returns-then-is_empty-clause-hands : goal.returns-then-is_empty-clause-hands
returns-then-is_empty-clause-hands g c =
    subst
    (λ (u : List Update). HandsOver (g.E.End.machine c.args.end.now) c.args.moment (g.E.End.line c.args.end.now)
    (g.E.End.line c.take-fed.new.self) c.args.piece.now c.args.taken.now.items u
    c.args.out.now.items c.take-fed.new.out.items)
    (sym c.in_ok-keep-in-Ok.ensures)
    (hands_all (g.E.End.machine c.args.end.now) c.args.moment (g.E.End.line c.args.end.now) (g.E.End.line c.loop-count.end)
    (g.E.End.line c.take-fed.new.self) c.args.piece.now c.loop-count.rest.now
    c.args.taken.now.items c.loop-count.taken.items c.args.out.now.items c.loop-count.out.items c.take-fed.new.out.items c.in-Ok.count c.in-Ok.update
    c.take-fed.result
    (search rules) c.loop-count.invariant.going c.take-fed.ensures.again (rw c.loop-count.invariant.same at c.take-fed.ensures.exact) c.take-fed.ensures.closed
    (rest_none c.in-Ok.count c.loop-count.rest.now (search rules)))

pub loop-count-preserved : goal.loop-count-preserved
loop-count-preserved g c = record {
  same = c.take-fed.ensures.same ∙ c.loop-count.invariant.same;
  own = c.take-fed.ensures.own ∙ c.loop-count.invariant.own;
  going = rw take_rest
      (subst
      (λ (u : List Update). Going (g.E.End.machine c.args.end.now) c.args.moment (g.E.End.line c.args.end.now)
      (g.E.End.line c.take-fed.new.self) c.args.piece.now
      (drop c.in-Ok.count c.loop-count.rest.now) c.args.taken.now.items u c.args.out.now.items c.take-fed.new.out.items)
      (sym c.in_ok-keep-in-Ok.ensures)
      (going_more (g.E.End.machine c.args.end.now) c.args.moment (g.E.End.line c.args.end.now) (g.E.End.line c.loop-count.end)
      (g.E.End.line c.take-fed.new.self) c.args.piece.now c.loop-count.rest.now
      c.args.taken.now.items c.loop-count.taken.items c.args.out.now.items c.loop-count.out.items c.take-fed.new.out.items c.in-Ok.count
      c.in-Ok.update c.take-fed.result
      (search rules) c.loop-count.invariant.going c.take-fed.ensures.again (rw c.loop-count.invariant.same at c.take-fed.ensures.exact)
      c.take-fed.ensures.closed));
}
