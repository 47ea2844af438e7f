use Rattle.fs_rules.proofs.Words.{◌≡◌, ◌+◌, ◌++◌, sym, ap, subst, ◌∙◌, length, length-append, arith, chosen, HasSortedGroups, chosen_in}
use Rattle.fs_rules.proofs.InParts.{next_in, next_front, next_back}
use Rattle.fs_rules.proofs.reading.next_match.Goals as goal

pub returns-then-is_some : goal.returns-then-is_some
returns-then-is_some c = next_front c.args.view.now c.args.n c.loop-group.number (chosen c.args.family c.in-Some.group.now)
    (chosen_in c.args.family c.next.new.self c.args.rest.now) c.next_match-found.result _
    (c.next_match-found.ensures ∙ ap (λ ks. next_in c.args.view.now c.args.n c.loop-group.number (chosen c.args.family ks))
    c.blocks-in-loop-group.ensures.routes) (sym c.is_some.ensures ∙ c.if-is_some.true)
    (ap (λ es. next_in c.args.view.now c.args.n c.loop-group.number (chosen_in c.args.family es c.args.rest.now)) (sym c.in-Some.ensures.steps)
    ∙ c.loop-group.invariant.found)

pub loop-group-preserved : goal.loop-group-preserved
loop-group-preserved c = record {
  found = ap (λ m. next_in c.args.view.now c.args.n (c.loop-group.number + m) (chosen_in c.args.family c.next.new.self c.args.rest.now)) counted
      ∙ next_back c.args.view.now c.args.n c.loop-group.number (chosen c.args.family c.in-Some.group.now)
      (chosen_in c.args.family c.next.new.self c.args.rest.now) c.next_match-found.result _
      (c.next_match-found.ensures ∙ ap (λ ks. next_in c.args.view.now c.args.n c.loop-group.number (chosen c.args.family ks))
      c.blocks-in-loop-group.ensures.routes) (sym c.is_some.ensures ∙ c.if-is_some.false)
      (ap (λ es. next_in c.args.view.now c.args.n c.loop-group.number (chosen_in c.args.family es c.args.rest.now)) (sym c.in-Some.ensures.steps)
      ∙ c.loop-group.invariant.found);
  number = omega (
    arith,
    counted,
    whole,
    length-append (chosen c.args.family c.in-Some.group.now) (chosen_in c.args.family c.next.new.self c.args.rest.now),
    c.loop-group.invariant.number,
  );
  sorted = (subst HasSortedGroups c.in-Some.ensures.steps c.loop-group.invariant.sorted).1;
} where
  counted : c.count_admitted-number.result ≡ length (chosen c.args.family c.in-Some.group.now)
  counted = c.count_admitted-number.ensures ∙ ap (λ ks. length (chosen c.args.family ks)) c.blocks-in-loop-group-2.ensures.routes

  whole : length (chosen_in c.args.family c.loop-group.group-iterator c.args.rest.now)
      ≡ length (chosen c.args.family c.in-Some.group.now ++ chosen_in c.args.family c.next.new.self c.args.rest.now)
  whole = ap (λ es. length (chosen_in c.args.family es c.args.rest.now)) c.in-Some.ensures.steps
