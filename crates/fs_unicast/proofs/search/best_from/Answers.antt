use Rattle.fs_unicast.proofs.Words.{◌≡◌, ◌∙◌, sym, ap, subst, Some, option_map, fold, map, filter, entries_between, Included, Unbounded, IsFirst}
use Rattle.fs_unicast.proofs.Words.{IsFirstFrom, Path, better, best_at, candidate, is_same_prefix, Route, place_cmp}
use Rattle.fs_unicast.proofs.{Fronts.{best_behind, front_behind}, Ranges.{place, first_in_range, none_in_range}}
use Rattle.fs_unicast.proofs.search.best_from.Goals as goal

pub returns-in_err-place-clause-first : goal.returns-in_err-place-clause-first
returns-in_err-place-clause-first c =
    subst (λ found. IsFirstFrom (λ (r : Route). r.0.prefix) c.args.routes.now.entries c.args.low.now (option_map (λ f. f.0) found))
    (sym c.from_residual.ensures)
    (none_in_range c.args.low.now c.args.routes.now.entries c.range-behind.result
    (subst (λ p. c.range-behind.result ≡ entries_between place_cmp (Included (place p 0)) Unbounded c.args.routes.now.entries) c.of.ensures
    (c.range-behind.ensures.between tt)) c.in_err-place.ensures.steps.0)

pub best_among-best-requires : goal.best_among-best-requires
best_among-best-requires c = front_behind c.args.low.now c.args.routes.now.entries c.range-behind.ensures.ordered c.range-behind.result
    (c.in_ok-place.place.now, c.in_ok-place.path.now) c.next.new.self
    (subst (λ p. c.range-behind.result ≡ entries_between place_cmp (Included (place p 0)) Unbounded c.args.routes.now.entries) c.of.ensures
    (c.range-behind.ensures.between tt)) c.in_ok-place.ensures.steps

pub returns-clause-first : goal.returns-clause-first
returns-clause-first c = subst (IsFirst (λ (r : Route). r.0.prefix) c.args.routes.now.entries c.args.low.now) (sym c.prefix.ensures)
    (first_in_range c.args.low.now c.args.routes.now.entries c.range-behind.ensures.ordered c.range-behind.result (
      c.in_ok-place.place.now,
      c.in_ok-place.path.now,
    ) c.next.new.self
    (subst (λ p. c.range-behind.result ≡ entries_between place_cmp (Included (place p 0)) Unbounded c.args.routes.now.entries) c.of.ensures
    (c.range-behind.ensures.between tt)) c.in_ok-place.ensures.steps)

pub returns-clause-best : goal.returns-clause-best
returns-clause-best c = c.best_among-best.ensures
    ∙ ap (λ (p : Path). fold better (Some (c.in_ok-place.place.now.peer, p))
    (map candidate (filter (λ r. is_same_prefix c.in_ok-place.place.now.prefix r.0.prefix) c.next.new.self))) c.path.ensures
    ∙ best_behind c.args.low.now c.args.routes.now.entries c.range-behind.ensures.ordered c.range-behind.result (
      c.in_ok-place.place.now,
      c.in_ok-place.path.now,
    ) c.next.new.self
    (subst (λ p. c.range-behind.result ≡ entries_between place_cmp (Included (place p 0)) Unbounded c.args.routes.now.entries) c.of.ensures
    (c.range-behind.ensures.between tt)) c.in_ok-place.ensures.steps
    ∙ ap (best_at c.args.routes.now.entries) (sym c.prefix.ensures)
