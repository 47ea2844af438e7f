use Rattle.fs_changes.proofs.Words.{◌≡◌, drop, is_due, is_sooner, next_of, place_by, soonest, target_of}
use Rattle.fs_changes.proofs.noted.next_noted.Given as goal

-- with what is left it is the soonest of all
abbrev pub invariant-loop-place : goal.invariant-loop-place
invariant-loop-place l =
    soonest (is_due l.family l.last) (λ place. place.destination) (is_sooner place_by target_of) l.found (drop l.place-index l.places)
    ≡ next_of l.family l.last l.places
