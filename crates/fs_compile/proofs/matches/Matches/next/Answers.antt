use Rattle.std.proofs.Common.{◌<◌, ◌≤◌, Some, None, length, subst, sym}
use Rattle.fs_compile.{specs.Matches.{AreMatchesOf, Matching}, proofs.{Indexing.{no_more_steps}, Walking.{next_inside}}}
use Rattle.fs_compile.proofs.matches.Matches.next.Goals as goal

pub returns-clause-inside : goal.returns-clause-inside
returns-clause-inside g c = λ view rules are.
    let own = subst (AreMatchesOf view rules) (sym c.self.view_is) are in
    subst (λ (matches : Matching). (matches.from ≤ c.in_ok-hit.hit.number) × (c.in_ok-hit.hit.number < length rules)) c.self.view_is
    (next_inside view rules c.self.inside.place.from (Some c.in_ok-hit.hit.number) (c.in_ok-hit.ensures.found view rules own.facts own.rules_are))

pub returns-in_err-hit-clause-steps : goal.returns-in_err-hit-clause-steps
returns-in_err-hit-clause-steps g c = λ view rules are.
    let own = subst (AreMatchesOf view rules) (sym c.self.view_is) are in
    no_more_steps view rules c.self.inside.place.from c.args.steps.now c.search.new.steps None (c.in_err-hit.ensures.steps view rules own.facts own.rules_are)

pub returns-clause-steps : goal.returns-clause-steps
returns-clause-steps g c = λ view rules are.
    let own = subst (AreMatchesOf view rules) (sym c.self.view_is) are in
    no_more_steps view rules c.self.inside.place.from c.args.steps.now c.search.new.steps (Some c.in_ok-hit.hit.number)
    (c.in_ok-hit.ensures.steps view rules own.facts own.rules_are)
