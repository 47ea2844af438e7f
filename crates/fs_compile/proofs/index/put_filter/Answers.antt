use Rattle.fs_compile.proofs.Words.{◌∷◌, List, drop, sym, subst, take, All-append, All-cons, All-drop, All-take, All, Filter, IsFilter}
use Rattle.fs_compile.proofs.index.put_filter.Goals as goal

pub returns-in_ok-insert : goal.returns-in_ok-insert
returns-in_ok-insert c =
    subst (λ (filters : List Filter). All (IsFilter c.args.run.rules.now) filters) (sym c.in_ok-insert.ensures.items)
    (All-append (IsFilter c.args.run.rules.now) (take c.partition_point-place.result c.args.filters.now.items)
    (c.in_ok-of.field-0 ∷ drop c.partition_point-place.result c.args.filters.now.items)
    (All-take (IsFilter c.args.run.rules.now) c.partition_point-place.result c.args.filters.now.items c.requires.filters)
    (All-cons (IsFilter c.args.run.rules.now) c.in_ok-of.field-0 (drop c.partition_point-place.result c.args.filters.now.items) c.in_ok-of.ensures
    (All-drop (IsFilter c.args.run.rules.now) c.partition_point-place.result c.args.filters.now.items c.requires.filters)))
