use Rattle.fs_compile.proofs.{Words.{subst, sym, IsIndexOf, hit_number}, Indexing.{search_is, steps_are}}
use Rattle.fs_compile.proofs.index.Index.search.Goals as goal

pub returns-then-is_empty-clause-found : goal.returns-then-is_empty-clause-found
returns-then-is_empty-clause-found g c = λ view rules are h.
    search_is view c.args.facts.now rules _ c.deref.result.now c.args.start.address c.args.start.from c.climb.result
    c.deref.ensures.value are c.requires.address (subst (IsIndexOf view.family rules) (sym c.self.view_is) h) c.climb.ensures.found

pub returns-then-is_empty-clause-steps : goal.returns-then-is_empty-clause-steps
returns-then-is_empty-clause-steps g c = λ view rules are h.
    steps_are view c.args.facts.now rules _ c.deref.result.now c.args.start.address c.args.start.from
    c.args.steps.now c.climb.new.steps (hit_number c.climb.result)
    c.deref.ensures.value are c.requires.address (subst (IsIndexOf view.family rules) (sym c.self.view_is) h) c.climb.ensures.steps

pub returns-else-is_empty-clause-found : goal.returns-else-is_empty-clause-found
returns-else-is_empty-clause-found g c = λ view rules are h.
    search_is view c.args.facts.now rules _ c.deref.result.now c.args.start.address c.args.start.from c.climb-else-is_empty.result
    c.deref.ensures.value are c.requires.address (subst (IsIndexOf view.family rules) (sym c.self.view_is) h) c.climb-else-is_empty.ensures.found

pub returns-else-is_empty-clause-steps : goal.returns-else-is_empty-clause-steps
returns-else-is_empty-clause-steps g c = λ view rules are h.
    steps_are view c.args.facts.now rules _ c.deref.result.now c.args.start.address c.args.start.from
    c.args.steps.now c.climb-else-is_empty.new.steps (hit_number c.climb-else-is_empty.result)
    c.deref.ensures.value are c.requires.address (subst (IsIndexOf view.family rules) (sym c.self.view_is) h) c.climb-else-is_empty.ensures.steps
