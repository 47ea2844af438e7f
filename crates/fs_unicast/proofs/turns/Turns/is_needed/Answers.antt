use Rattle.fs_unicast.proofs.Words.{◌∙◌, sym, ap, Some, None, true≢false, refl, find, option_map, is_at, neighbour, place_cmp, is_before}
use Rattle.fs_unicast.proofs.Words.{is_at_or_after, is_same, lies_between}
use Rattle.fs_unicast.proofs.{Finding.{found_passes, last_passes}, PlaceOrder.{below_upto}, Gap.{other_stays, parted_idle}}
use Rattle.fs_unicast.proofs.turns.Turns.is_needed.Goals as goal

pub returns-in_default : goal.returns-in_default
returns-in_default c = let held = c.args.paths.now.entries in let turns = c.args.self.now.places.keys in let t = c.args.turn.now in
    λ _. parted_idle turns held t None (find (is_at_or_after t) held) c.last_before.ensures.ordered c.requires
    (sym c.last_before.ensures.found ∙ ap (option_map (λ r. (r.0.now, r.1.now))) c.in_default.is) refl tt

pub returns-in_default-first_from : goal.returns-in_default-first_from
returns-in_default-first_from c = let held = c.args.paths.now.entries in let turns = c.args.self.now.places.keys in let t = c.args.turn.now in
    λ _. parted_idle turns held t (Some (c.in-Some.before.now, c.in-Some.path.now)) None c.last_before.ensures.ordered c.requires
    (sym c.in-Some.ensures.found) (sym c.first_from.ensures.found ∙ ap (option_map (λ r. (r.0.now, r.1.now))) c.in_default-first_from.is) tt

pub is_alone-requires : goal.is_alone-requires
is_alone-requires c = below_upto c.in-Some.before.now c.args.turn.now c.in-Some-first_from.after.now
    (last_passes (is_before c.args.turn.now) c.args.paths.now.entries (c.in-Some.before.now, c.in-Some.path.now) (sym c.in-Some.ensures.found))
    (found_passes (is_at_or_after c.args.turn.now) c.args.paths.now.entries (c.in-Some-first_from.after.now, c.in-Some-first_from.next.now)
    (sym c.in-Some-first_from.ensures.found))

pub returns-then-not-has_neighbour : goal.returns-then-not-has_neighbour
returns-then-not-has_neighbour c = let held = c.args.paths.now.entries in let turns = c.args.self.now.places.keys in let t = c.args.turn.now in
    λ shared. parted_idle turns held t (Some (c.in-Some.before.now, c.in-Some.path.now)) (Some (c.in-Some-first_from.after.now, c.in-Some-first_from.next.now))
    c.last_before.ensures.ordered c.requires (sym c.in-Some.ensures.found) (sym c.in-Some-first_from.ensures.found)
    (λ _. other_stays (lies_between c.in-Some.before.now c.in-Some-first_from.after.now) (is_at (place_cmp t)) turns (sym c.is_alone.ensures ∙ shared))

pub returns-else-not-has_neighbour : goal.returns-else-not-has_neighbour
returns-else-not-has_neighbour c = let held = c.args.paths.now.entries in let turns = c.args.self.now.places.keys in let t = c.args.turn.now in
    λ _. parted_idle turns held t (Some (c.in-Some.before.now, c.in-Some.path.now)) (Some (c.in-Some-first_from.after.now, c.in-Some-first_from.next.now))
    c.last_before.ensures.ordered c.requires (sym c.in-Some.ensures.found) (sym c.in-Some-first_from.ensures.found)
    (λ other. absurd (true≢false (sym c.if-not-has_neighbour.false ∙ c.has_neighbour.ensures
    ∙ ap (is_same (neighbour c.in-Some.path.now.segments)) c.neighbour.ensures ∙ other)))
