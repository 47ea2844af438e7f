use Rattle.fs_unicast.proofs.{Words.{is_lt, place_cmp}, Searching.{IsAhead, count}}
use Rattle.fs_unicast.proofs.turns.Turns.others_within.Given as goal

abbrev pub invariant-loop-place : goal.invariant-loop-place
invariant-loop-place l = IsAhead l.fn.low l.high l.local_as l.asn l.paths.entries l.from

abbrev pub decreases-loop-place : goal.decreases-loop-place
decreases-loop-place l = count (λ t. is_lt (place_cmp l.from t)) l.self.places.keys
