use Rattle.fs_compile.proofs.Words.{◌≡◌, ◌+◌, ◌++◌, ◌∷◌, [], List, length, sym, ap, subst, arith, ℕ, ◌≤◌, All, splice, All-head, All-push, All-tail}
use Rattle.fs_compile.proofs.Words.{Fast, Filter, IsFilter, spliced_size}
use Rattle.fs_compile.proofs.Filtering.{filter_kept, filter_moved}
use Rattle.fs_compile.proofs.index.mended_filters.Goals as goal

all_none : (P : Filter → Type 0) → All P []
all_none P k d below = absurd (omega (arith, below))

-- one more, and the others that are left
pushed : (rules : List Fast) (new old : List Filter) (f : Filter) → new ≡ old ++ f ∷ [] → All (IsFilter rules) old → IsFilter rules f → All (IsFilter rules) new
pushed rules new old f is h k = subst (λ (fs : List Filter). All (IsFilter rules) fs) (sym is) (All-push (IsFilter rules) old f h k)

head_of : (rules : List Fast) (left rest : List Filter) (f : Filter) → left ≡ f ∷ rest → All (IsFilter rules) left → IsFilter rules f
head_of rules left rest f is h = All-head (IsFilter rules) f rest (subst (λ (fs : List Filter). All (IsFilter rules) fs) is h)

tail_of : (rules : List Fast) (left rest : List Filter) (f : Filter) → left ≡ f ∷ rest → All (IsFilter rules) left → All (IsFilter rules) rest
tail_of rules left rest f is h = All-tail (IsFilter rules) f rest (subst (λ (fs : List Filter). All (IsFilter rules) fs) is h)

-- the rules behind a stretch end where they are
room : (rules before news : List Fast) (f : Filter) (from to : ℕ) → IsFilter before f → from ≤ to → to ≤ length before
    → rules ≡ splice before from to news → (f.first ≤ f.end) × (f.end + from + length news ≤ length rules + to)
room rules before news f from to own le within is = (own.ordered, omega (arith, own.within, spliced_size before news from to le within, ap length is))

pub loop-filter-init : goal.loop-filter-init
loop-filter-init c = record {
  runs = subst (λ (fs : List Filter). All (IsFilter c.args.rules.now) fs) (sym c.new-runs.ensures.items) (all_none (IsFilter c.args.rules.now));
  left = λ before h. subst (λ (fs : List Filter). All (IsFilter before) fs) (sym c.into_iter-filter-iterator.ensures.into_iter_gives.0) h;
}

pub loop-filter-preserved-in-Continue-1 : goal.loop-filter-preserved-in-Continue-1
loop-filter-preserved-in-Continue-1 c = record {
  runs = pushed c.args.rules.now c.push.new.self.items c.loop-filter.runs.items c.in-Some.filter c.in_ok-push.ensures.items c.loop-filter.invariant.runs
      (subst (λ rules. IsFilter rules c.in-Some.filter) (sym c.requires.was.5)
      (filter_kept c.requires.was.0 c.requires.was.1 c.args.from c.args.to c.in-Some.filter c.requires.bounds c.requires.was.3 c.if-filter-from.true
      (head_of c.requires.was.0 _ _ c.in-Some.filter c.in-Some.ensures.steps.0 (c.loop-filter.invariant.left c.requires.was.0 c.requires.was.2))));
  left = λ before h. tail_of before _ _ c.in-Some.filter c.in-Some.ensures.steps.0 (c.loop-filter.invariant.left before h);
}

pub overflow_add-first-then-to-filter : goal.overflow_add-first-then-to-filter
overflow_add-first-then-to-filter c =
    let r = room c.args.rules.now c.requires.was.0 c.requires.was.1 c.in-Some.filter c.args.from c.args.to
    (head_of c.requires.was.0 _ _ c.in-Some.filter c.in-Some.ensures.steps.0 (c.loop-filter.invariant.left c.requires.was.0 c.requires.was.2))
    c.requires.bounds c.requires.was.3 c.requires.was.5 in
    omega (arith, r.0, r.1, c.requires.was.4, c.requires.few)

pub moved-requires-clause-fits : goal.moved-requires-clause-fits
moved-requires-clause-fits c =
    let r = room c.args.rules.now c.requires.was.0 c.requires.was.1 c.in-Some.filter c.args.from c.args.to
    (head_of c.requires.was.0 _ _ c.in-Some.filter c.in-Some.ensures.steps.0 (c.loop-filter.invariant.left c.requires.was.0 c.requires.was.2))
    c.requires.bounds c.requires.was.3 c.requires.was.5 in
    omega (arith, r.0, r.1, c.requires.was.4, c.requires.few)

pub loop-filter-preserved-in-Continue-branch-2 : goal.loop-filter-preserved-in-Continue-branch-2
loop-filter-preserved-in-Continue-branch-2 c = record {
  runs = pushed c.args.rules.now c.push-then-to-filter.new.self.items c.loop-filter.runs.items c.moved.result c.in_ok-push-2.ensures.items
      c.loop-filter.invariant.runs
      (subst (λ rules. IsFilter rules c.moved.result) (sym c.requires.was.5)
      (filter_moved c.requires.was.0 c.requires.was.1 c.args.from c.args.to c.args.size c.in-Some.filter c.moved.result
      c.requires.bounds c.requires.was.3 c.if-to-filter.true c.requires.was.4 c.moved.ensures
      (head_of c.requires.was.0 _ _ c.in-Some.filter c.in-Some.ensures.steps.0 (c.loop-filter.invariant.left c.requires.was.0 c.requires.was.2))));
  left = λ before h. tail_of before _ _ c.in-Some.filter c.in-Some.ensures.steps.0 (c.loop-filter.invariant.left before h);
}

pub loop-filter-preserved : goal.loop-filter-preserved
loop-filter-preserved c = record {
  runs = c.loop-filter.invariant.runs;
  left = λ before h. tail_of before _ _ c.in-Some.filter c.in-Some.ensures.steps.0 (c.loop-filter.invariant.left before h);
}

pub put_filter-requires-clause-filters : goal.put_filter-requires-clause-filters
put_filter-requires-clause-filters c = c.loop-filter.invariant.runs
