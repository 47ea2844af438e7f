use Rattle.fs_unicast.proofs.Words.{sym, ◌∙◌, seeking_ends, seeking_found, seeking_more, seeking_shorter, seeking_apart, Route}
use Rattle.fs_unicast.proofs.{Fronts.{seeking, covers_over}, Ranges.{best_at_longest, no_best}}
use Rattle.fs_unicast.proofs.search.best_over.Goals as goal

pub returns-in_default : goal.returns-in_default
returns-in_default c = no_best c.args.routes.now.entries c.args.prefix.now
    (seeking_ends (λ (r : Route). r.0.prefix) c.args.routes.now.entries c.args.prefix.now c.loop-first.low
    (seeking c.args.routes.now.entries c.args.prefix.now c.loop-first.low c.loop-first.invariant) c.in_default.ensures.first)

pub returns : goal.returns
returns c = c.in-Some.ensures.best
    ∙ best_at_longest c.args.routes.now.entries c.args.prefix.now c.in-Some.first
    (seeking_found (λ (r : Route). r.0.prefix) c.args.routes.now.entries c.args.prefix.now c.loop-first.low c.in-Some.first
    (seeking c.args.routes.now.entries c.args.prefix.now c.loop-first.low c.loop-first.invariant) c.in-Some.ensures.first
    (sym c.covers.ensures ∙ c.if-covers.true))

pub returns-in_default-common : goal.returns-in_default-common
returns-in_default-common c = no_best c.args.routes.now.entries c.args.prefix.now
    (seeking_apart (λ (r : Route). r.0.prefix) c.args.routes.now.entries c.args.prefix.now c.loop-first.low c.in-Some.first
    (seeking c.args.routes.now.entries c.args.prefix.now c.loop-first.low c.loop-first.invariant) c.in-Some.ensures.first
    (c.common.ensures.none.0 c.in_default-common.is))

pub loop-first-smaller : goal.loop-first-smaller
loop-first-smaller c = seeking_shorter (λ (r : Route). r.0.prefix) c.args.routes.now.entries c.args.prefix.now c.loop-first.low c.in-Some.first
    c.in-Some-common.both (seeking c.args.routes.now.entries c.args.prefix.now c.loop-first.low c.loop-first.invariant)
    c.in-Some.ensures.first (sym c.covers.ensures ∙ c.if-covers.false) c.in-Some-common.ensures.over.0 c.in-Some-common.ensures.over.1

pub loop-first-preserved : goal.loop-first-preserved
loop-first-preserved c = covers_over c.args.routes.now.entries c.args.prefix.now c.in-Some-common.both
    (seeking_more (λ (r : Route). r.0.prefix) c.args.routes.now.entries c.args.prefix.now c.loop-first.low c.in-Some.first c.in-Some-common.both
    (seeking c.args.routes.now.entries c.args.prefix.now c.loop-first.low c.loop-first.invariant)
    c.in-Some.ensures.first c.in-Some-common.ensures.over.0 c.in-Some-common.ensures.longest)
