use Rattle.fs_unicast.specs.Search.{is_beside}
use Rattle.fs_unicast.proofs.Words.{◌≡◌, fold, filter, option_map, map, better, best_of, peer_path, IsFront, candidate, is_same_prefix}
use Rattle.fs_unicast.proofs.search.best_of_both.Given as goal

abbrev pub invariant-loop-place : goal.invariant-loop-place
invariant-loop-place l = record {
  front : IsFront l.prefix l.place-iterator;
  before : fold better (option_map peer_path l.before) (map candidate (filter (λ r. is_beside l.prefix l.peer r.0) l.place-iterator))
      ≡ fold better (option_map peer_path l.fn.old) (map candidate (filter (λ r. is_beside l.prefix l.peer r.0) l.fn.routes));
  now : fold better (option_map peer_path l.now) (map candidate (filter (λ r. is_same_prefix l.prefix r.0.prefix) l.place-iterator))
      ≡ best_of (map candidate (filter (λ r. is_same_prefix l.prefix r.0.prefix) l.fn.routes));
}
