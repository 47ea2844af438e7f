use Rattle.std.proofs.Common.{rules, arith, inl, inr, refl, sym, ◌∙◌, ◌≡◌}
use Rattle.fs_peering.proofs.Exchanging.{talked, talking_none, talking_first, talking_second, talking_said, never_first, never_second, talked_done}
use Rattle.fs_peering.proofs.joined.exchange.Goals.{else-flow-gt0-2-via-then-flow-gt0-2+else-flow-limit, else-flow-gt0-2-via-else-flow-gt0-2}
use Rattle.fs_peering.proofs.joined.exchange.Goals as goal

pub loop-flow-init : goal.loop-flow-init
loop-flow-init g c = record {
  later = search rules;
  first = record { opened = c.requires.open; within = search rules; own_is = refl };
  second = record { opened = c.requires.other; within = search rules; own_is = refl };
  bound = search rules;
  counted = search rules;
  talking = rw c.none-flow.ensures (talking_none _ _ _ _);
}

pub loop-flow-preserved-else-round-eq0 : goal.loop-flow-preserved-else-round-eq0
loop-flow-preserved-else-round-eq0 g c = record {
  later = search rules;
  first = record { opened = search rules; within = search rules; own_is = c.in_ok-round.ensures.own ∙ c.loop-flow.invariant.first.own_is };
  second = c.loop-flow.invariant.second;
  bound = search rules;
  counted = search rules;
  talking = talking_first c.loop-flow.invariant.talking _ _ _ _ _ _ _ c.in_ok-flow.ensures c.in_ok-round.ensures.round c.in_ok-round.ensures.moment;
}

pub loop-flow-preserved-then-flow-limit : goal.loop-flow-preserved-then-flow-limit
loop-flow-preserved-then-flow-limit g c = record {
  later = search rules;
  first = rw c.in_ok-flow-2.ensures c.loop-flow.invariant.first;
  second = record { opened = search rules; within = search rules; own_is = c.in_ok-round-2.ensures.own ∙ c.loop-flow.invariant.second.own_is };
  bound = search rules;
  counted = search rules;
  talking = talking_second c.loop-flow.invariant.talking _ _ _ _ _ _ _ c.in_ok-flow-2.ensures c.in_ok-round-2.ensures.round c.in_ok-round-2.ensures.moment;
}

pub loop-flow-preserved : goal.loop-flow-preserved
loop-flow-preserved g c = record {
  later = search rules;
  first = rw c.in_ok-flow-3.ensures c.loop-flow.invariant.first;
  second = record { opened = search rules; within = search rules; own_is = c.in_ok-said.ensures.own ∙ c.loop-flow.invariant.second.own_is };
  bound = search rules;
  counted = search rules;
  talking = talking_said c.loop-flow.invariant.talking _ _ _ _ c.in_ok-flow-3.ensures (rw c.in-Some.is at c.in_ok-said.ensures.spoke);
}

pub returns-then-is_over-clause-talked : goal.returns-then-is_over-clause-talked
returns-then-is_over-clause-talked g c =
    talked _ _ _ _ _ _ _ _ _ _ _ _
    (talking_first c.loop-flow.invariant.talking _ _ _ _ _ _ _ c.in_ok-flow.ensures c.in_ok-round.ensures.round c.in_ok-round.ensures.moment)
    (search rules, search rules) (λ events now first second read. (search rules, c.loop-flow.invariant.second.opened))

pub returns-then-limit-flow-clause-talked : goal.returns-then-limit-flow-clause-talked
returns-then-limit-flow-clause-talked g c =
    talked _ _ _ _ _ _ _ _ _ _ _ _
    (talking_first c.loop-flow.invariant.talking _ _ _ _ _ _ _ c.in_ok-flow.ensures c.in_ok-round.ensures.round c.in_ok-round.ensures.moment)
    (search rules, search rules) (λ events now first second read. (search rules, (c.loop-flow.invariant.second.opened, inl (search rules))))

pub returns-then-round-eq0-clause-talked : goal.returns-then-round-eq0-clause-talked
returns-then-round-eq0-clause-talked g c =
    never_first c.loop-flow.invariant.talking _ _ _ _ _ _ _ _ c.in_ok-round.ensures.round c.in_ok-round.ensures.moment (search rules) (search rules)

pub returns-then-is_over-2-clause-talked : goal.returns-then-is_over-2-clause-talked
returns-then-is_over-2-clause-talked g c =
    talked _ _ _ _ _ _ _ _ _ _ _ _
    (talking_second c.loop-flow.invariant.talking _ _ _ _ _ _ _ c.in_ok-flow-2.ensures c.in_ok-round-2.ensures.round c.in_ok-round-2.ensures.moment)
    (search rules, search rules) (λ events now first second read. (c.loop-flow.invariant.first.opened, search rules))

pub returns-then-limit-count-clause-talked : goal.returns-then-limit-count-clause-talked
returns-then-limit-count-clause-talked g c =
    talked _ _ _ _ _ _ _ _ _ _ _ _
    (talking_second c.loop-flow.invariant.talking _ _ _ _ _ _ _ c.in_ok-flow-2.ensures c.in_ok-round-2.ensures.round c.in_ok-round-2.ensures.moment)
    (search rules, search rules) (λ events now first second read. (c.loop-flow.invariant.first.opened, (search rules, inr (search rules))))

pub returns-then-round-eq0-2-clause-talked : goal.returns-then-round-eq0-2-clause-talked
returns-then-round-eq0-2-clause-talked g c =
    never_second c.loop-flow.invariant.talking _ _ _ _ _ _ _ _ c.in_ok-round-2.ensures.round c.in_ok-round-2.ensures.moment (search rules) (search rules)

pub returns-in_default-clause-talked : goal.returns-in_default-clause-talked
returns-in_default-clause-talked g c =
    talked_done c.loop-flow.invariant.talking _ _ _ _ (rw c.in_default.is at c.in_ok-said.ensures.spoke) (
      search rules,
      c.loop-flow.invariant.bound,
    ) c.loop-flow.invariant.first.opened
    (c.in_ok-said.ensures.over ∙ c.loop-flow.invariant.second.opened) c.loop-flow.invariant.first.within (search rules) (omega (arith, c.if-flow-gt0.false))
    (c.in_ok-said.ensures.begun c.in_default.is c.loop-flow.invariant.second.opened)
    (λ waits.
    let read : g.A.Speaker.count c.loop-flow.second ≡ c.loop-flow.flow.second_read = c.loop-flow.invariant.counted (sym c.in_ok-said.ensures.ready ∙ waits) in
    elim c.else-flow-gt0-2.branch [
      | else-flow-gt0-2-via-then-flow-gt0-2+else-flow-limit w ↦ absurd (omega (arith, read, w.if-flow-limit.false, c.loop-flow.invariant.second.within))
      | else-flow-gt0-2-via-else-flow-gt0-2 w ↦ omega (arith, w.if-flow-gt0-2.false)
    ]) (λ ready. c.in_ok-said.ensures.all c.in_default.is (rw c.in_ok-said.ensures.ready at ready))
