use Rattle.fs_unicast.proofs.{Words.{◌≡◌, ◌∙◌, sym, ap, false, arith, fold, map, option_map, better, peer_path, candidate}, Swaps.{none_beside}}
use Rattle.fs_unicast.proofs.search.best_of_both.Goals as goal

pub returns-then-not-is_same_prefix-clause-before : goal.returns-then-not-is_same_prefix-clause-before
returns-then-not-is_same_prefix-clause-before c = let other : c.is_same_prefix.result ≡ false = grind (arith, c.if-not-is_same_prefix.true) in
    sym (ap (λ rs. fold better (option_map peer_path c.loop-place.before) (map candidate rs))
    (none_beside c.args.prefix.now c.args.peer c.loop-place.place-iterator (
      c.in-Some.place.now,
      c.in-Some.path.now,
    ) c.next.new.self c.loop-place.invariant.front c.in-Some.ensures.steps (sym c.is_same_prefix.ensures ∙ other)))
    ∙ c.loop-place.invariant.before
