use Rattle.fs_unicast.proofs.Words.{◌≡◌, ◌∙◌, sym, ap, subst, filter, map, entries_between, Included, Unbounded, best_of, IsFront, candidate}
use Rattle.fs_unicast.proofs.Words.{is_same_prefix, place_cmp}
use Rattle.fs_unicast.proofs.Ranges.{place, front_range, best_starts}
use Rattle.fs_unicast.proofs.search.best_at.Goals as goal

module _ (c : goal.After-range) where
  found_is : c.range.result ≡ entries_between place_cmp (Included (place c.args.prefix.now 0)) Unbounded c.args.routes.now.entries
  found_is = c.range.ensures.between tt ∙ ap (λ q. entries_between place_cmp (Included (place q 0)) Unbounded c.args.routes.now.entries) c.of-key.ensures

pub best_among-requires : goal.best_among-requires
best_among-requires c = subst (λ p. IsFront p c.range.result) (sym c.of-key.ensures)
    (subst (IsFront c.args.prefix.now) (sym (found_is c)) (front_range c.args.prefix.now c.args.routes.now.entries c.range.ensures.ordered))

pub returns : goal.returns
returns c = c.best_among.ensures
    ∙ ap (λ p. best_of (map candidate (filter (λ r. is_same_prefix p r.0.prefix) c.range.result))) c.of-key.ensures
    ∙ best_starts c.args.prefix.now c.args.routes.now.entries c.range.result (c.range.ensures.between tt
    ∙ ap (λ q. entries_between place_cmp (Included (place q 0)) Unbounded c.args.routes.now.entries) c.of-key.ensures)
