use Rattle.fs_rules.proofs.Words.{◌≡◌, ◌++◌, map, filter, drop, is_chosen, chosen}
use Rattle.fs_rules.proofs.lists.push_admitted.Given as goal

abbrev pub invariant-loop-place : goal.invariant-loop-place
invariant-loop-place g l = map g.T.OfKept.shown l.list.items
    ++ map (λ k. g.T.OfKept.shows k.route) (filter (is_chosen l.family l.kept) (drop l.place l.kept)) ≡ map g.T.OfKept.shown l.fn.list.items
    ++ map (λ k. g.T.OfKept.shows k.route) (chosen l.family l.kept)
