use Rattle.fs_unicast.proofs.Words.{◌≡◌, is_eq, list_all, place_cmp, is_alone}
use Rattle.fs_unicast.proofs.turns.Turns.is_alone.Given as goal

abbrev pub invariant-loop-other : goal.invariant-loop-other
invariant-loop-other l = list_all (λ u. is_eq (place_cmp l.turn u)) l.other-iterator ≡ is_alone l.self.places.keys l.before l.after l.turn
