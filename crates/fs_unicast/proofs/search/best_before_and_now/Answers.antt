use Rattle.fs_unicast.specs.Search.{is_beside}
use Rattle.fs_unicast.proofs.Words.{◌≡◌, ◌∙◌, sym, ap, subst, filter, fold, map, option_map, entries_between, Included, Unbounded, best_of, better}
use Rattle.fs_unicast.proofs.Words.{peer_path, IsFront, candidate, is_same_prefix, place_cmp}
use Rattle.fs_unicast.proofs.{Ranges.{place, front_range, best_starts}, Swaps.{best_before}}
use Rattle.fs_unicast.proofs.search.best_before_and_now.Goals as goal

module _ (c : goal.After-range) where
  found_is : c.range.result ≡ entries_between place_cmp (Included (place c.args.swap.now.prefix 0)) Unbounded c.args.routes.now.entries
  found_is = c.range.ensures.between tt ∙ ap (λ q. entries_between place_cmp (Included (place q 0)) Unbounded c.args.routes.now.entries) c.of-key.ensures

pub best_of_both-requires : goal.best_of_both-requires
best_of_both-requires c = subst (λ p. IsFront p c.range.result) (sym c.of-key.ensures)
    (subst (IsFront c.args.swap.now.prefix) (sym (found_is c)) (front_range c.args.swap.now.prefix c.args.routes.now.entries c.range.ensures.ordered))

pub returns-clause-before : goal.returns-clause-before
returns-clause-before c = λ earlier h. c.best_of_both.ensures.before
    ∙ ap (λ p. fold better (option_map peer_path c.old_route.result)
    (map candidate (filter (λ r. is_beside p c.args.swap.now.peer r.0) c.range.result))) c.of-key.ensures
    ∙ ap (λ o. fold better o (map candidate (filter (λ r. is_beside c.args.swap.now.prefix c.args.swap.now.peer r.0) c.range.result))) c.old_route.ensures
    ∙ best_before c.args.swap.now earlier c.args.routes.now.entries c.range.result h
    (c.range.ensures.between tt ∙ ap (λ q. entries_between place_cmp (Included (place q 0)) Unbounded c.args.routes.now.entries) c.of-key.ensures)

pub returns-clause-now : goal.returns-clause-now
returns-clause-now c = c.best_of_both.ensures.now
    ∙ ap (λ p. best_of (map candidate (filter (λ r. is_same_prefix p r.0.prefix) c.range.result))) c.of-key.ensures
    ∙ best_starts c.args.swap.now.prefix c.args.routes.now.entries c.range.result
    (c.range.ensures.between tt ∙ ap (λ q. entries_between place_cmp (Included (place q 0)) Unbounded c.args.routes.now.entries) c.of-key.ensures)
