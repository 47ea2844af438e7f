use Rattle.fs_unicast.proofs.Words.{◌≡◌, ◌==◌, find, option_map, option_copied, held_by}
use Rattle.fs_unicast.proofs.search.held_by.Given as goal

abbrev pub invariant-loop-place : goal.invariant-loop-place
invariant-loop-place l = option_map (λ r. r.0.prefix) (find (λ r. r.0.peer == l.peer) l.place-iterator)
    ≡ held_by l.routes.entries l.peer (option_copied l.fn.from)
