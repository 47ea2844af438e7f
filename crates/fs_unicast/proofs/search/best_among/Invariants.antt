use Rattle.fs_unicast.proofs.Words.{◌≡◌, fold, filter, option_map, map, better, peer_path, IsFront, candidate, is_same_prefix}
use Rattle.fs_unicast.proofs.search.best_among.Given as goal

abbrev pub invariant-loop-place : goal.invariant-loop-place
invariant-loop-place l = record {
  front : IsFront l.prefix l.place-iterator;
  best : fold better (option_map peer_path l.best) (map candidate (filter (λ r. is_same_prefix l.prefix r.0.prefix) l.place-iterator))
      ≡ fold better (option_map peer_path l.fn.route) (map candidate (filter (λ r. is_same_prefix l.prefix r.0.prefix) l.fn.routes));
}
