use Rattle.cmd_enforce.proofs.Words.{◌≡◌, ◌≤◌, ℕ, List, Option, Some, ◌+◌, ap, sym, subst, ◌∙◌, arith, Matching, reaching, reaching_behind}
use Rattle.cmd_enforce.proofs.Words.{reaching_from, Walked, entries, goes_on, walk_of}
use Rattle.cmd_enforce.proofs.Walking.{FindsFrom, WalkGoesOn, fewer_steps, matches_on, place_among, walk_ends, walk_on, walk_over}
use Rattle.cmd_enforce.proofs.walk.walk.Goals as goal

pub rules-preserved : goal.rules-preserved
rules-preserved g c =
    let sound = c.requires.sound in
    let some = c.rules.invariant.matches sound.0 sound.1 in
    let place = place_among c.args.view.now sound.0 c.rules.matches.from c.in-Some.found c.args.rules.now
    (c.in-Some.ensures.next c.args.view.now sound.0 some, c.in-Some.ensures.inside c.args.view.now sound.0 some) sound.1.actions_are in
    record {
      within = omega (arith, from, place.1);
      count = omega (arith, from, c.push_reserved.ensures.len, c.rules.invariant.count, place.0);
      room = omega (arith, c.push_reserved.ensures.capacity, c.rules.invariant.room);
      same = c.push_reserved.ensures.capacity ∙ c.rules.invariant.same;
      matches = λ list w. matches_on c.args.view.now list c.rules.matches c.next.new.self c.in-Some.found c.in-Some.ensures.behind
          (c.rules.invariant.matches list w);
      walked = λ list w.
          let m = c.rules.invariant.matches list w in
          let found : FindsFrom c.rules.matches.from c.args.view.now list (Some c.in-Some.found) =
          (c.in-Some.ensures.next c.args.view.now list m, c.in-Some.ensures.inside c.args.view.now list m) in
          let taken = c.actions-actions.ensures ∙ c.index-rules-found.is in
          subst (λ (n : ℕ). WalkGoesOn c.args.view.now list n c.push_reserved.new.self.items) (sym from)
          (subst (λ (walked : List Walked). WalkGoesOn c.args.view.now list (c.in-Some.found + 1) walked) (sym c.push_reserved.ensures.items)
          (walk_on c.args.view.now list c.rules.matches.from c.in-Some.found c.rules.walked.items _ c.args.rules.now c.index-rules-found.result
          (c.rules.invariant.walked list w) found w.actions_are
          (ap (λ (x : List (List ℕ)). (c.in-Some.found + 1, x)) taken) (ap goes_on (sym taken) ∙ sym c.more.ensures ∙ c.if-not-more.false)));
      steps = λ list w. subst (λ (n : ℕ). c.next.new.steps + reaching_from n c.args.view.now list ≤ c.args.steps.now + reaching c.args.view.now list) (sym from)
          (fewer_steps _ _ _ _ _ (c.in-Some.ensures.walk c.args.view.now list (c.rules.invariant.matches list w)) (c.rules.invariant.steps list w));
    } where
      from : c.next.new.self.from ≡ c.in-Some.found + 1
      from = ap (λ (m : Matching). m.from) c.in-Some.ensures.behind

pub returns-then-not-more-clause-walk : goal.returns-then-not-more-clause-walk
returns-then-not-more-clause-walk g c = λ list w.
    let m = c.rules.invariant.matches list w in
    let found : FindsFrom c.rules.matches.from c.args.view.now list (Some c.in-Some.found) =
    (c.in-Some.ensures.next c.args.view.now list m, c.in-Some.ensures.inside c.args.view.now list m) in
    let taken = c.actions-actions.ensures ∙ c.index-rules-found.is in
    subst (λ (walked : List Walked). entries walked ≡ walk_of c.args.view.now list) (sym c.push_reserved.ensures.items)
    (walk_ends c.args.view.now list c.rules.matches.from c.in-Some.found c.rules.walked.items _ c.args.rules.now c.index-rules-found.result
    (c.rules.invariant.walked list w) found w.actions_are
    (ap (λ (x : List (List ℕ)). (c.in-Some.found + 1, x)) taken) (ap goes_on (sym taken) ∙ sym c.more.ensures ∙ c.if-not-more.true))

pub returns-then-not-more-clause-steps : goal.returns-then-not-more-clause-steps
returns-then-not-more-clause-steps g c = λ list w.
    omega (arith, c.in-Some.ensures.walk c.args.view.now list (c.rules.invariant.matches list w), c.rules.invariant.steps list w)

pub returns-clause-walk : goal.returns-clause-walk
returns-clause-walk g c = λ list w. walk_over c.args.view.now list c.rules.matches.from c.rules.walked.items (c.rules.invariant.walked list w)
    (subst (λ (o : Option ℕ). FindsFrom c.rules.matches.from c.args.view.now list o) c.in_default.is (
      c.next.ensures.next c.args.view.now list (c.rules.invariant.matches list w),
      c.next.ensures.inside c.args.view.now list (c.rules.invariant.matches list w),
    ))

pub returns-clause-steps : goal.returns-clause-steps
returns-clause-steps g c = λ list w.
    let none : c.next.new.steps + 0 ≤ c.rules.steps + reaching_from c.rules.matches.from c.args.view.now list =
    subst (λ (o : Option ℕ). c.next.new.steps + reaching_behind o c.args.view.now list ≤ c.rules.steps
    + reaching_from c.rules.matches.from c.args.view.now list) c.in_default.is
    (c.next.ensures.walk c.args.view.now list (c.rules.invariant.matches list w)) in
    omega (arith, none, c.rules.invariant.steps list w)
