use Rattle.fs_unicast.proofs.Words.{◌≡◌, ◌∙◌, List, false, sym, ap, option_map, is_other, Route}
use Rattle.fs_unicast.proofs.Searching.{search_starts, search_hits, search_falls, search_turns, search_stops, search_ends}
use Rattle.fs_unicast.proofs.turns.Turns.others_within.Goals as goal

pub loop-place-init : goal.loop-place-init
loop-place-init c = search_starts c.args.low c.args.high.now c.args.local_as c.args.asn c.args.paths.now.entries

pub returns-then-is_other : goal.returns-then-is_other
returns-then-is_other c = search_hits c.args.low c.args.high.now c.args.local_as c.args.asn c.args.paths.now.entries c.loop-place.from
    (c.in-Some.place.now, c.in-Some.path.now)
    c.loop-place.invariant (sym c.in-Some.ensures.found) (sym (ap (is_other c.args.local_as c.args.asn) c.path.ensures) ∙ sym c.is_other.ensures
    ∙ c.if-is_other.true)

-- A route has no other neighbouring AS, and a turn lies behind it.
module _ (c : goal.In-Some-first_inside) where
  abbrev held : List Route
  held = c.args.paths.now.entries

  abbrev found : Route
  found = (c.in-Some.place.now, c.in-Some.path.now)

  alike : is_other c.args.local_as c.args.asn found.1 ≡ false
  alike = sym (ap (is_other c.args.local_as c.args.asn) c.path.ensures) ∙ sym c.is_other.ensures ∙ c.if-is_other.false

pub loop-place-smaller : goal.loop-place-smaller
loop-place-smaller c = search_falls c.args.low c.args.high.now c.args.local_as c.args.asn (held c) c.args.self.now.places.keys c.loop-place.from (found c)
    c.first_within.ensures.ordered c.requires c.loop-place.invariant (sym c.in-Some.ensures.found) (alike c)
    c.in-Some-first_inside.turn (sym c.in-Some-first_inside.ensures.found)

pub loop-place-preserved : goal.loop-place-preserved
loop-place-preserved c = search_turns c.args.low c.args.high.now c.args.local_as c.args.asn (held c) c.args.self.now.places.keys c.loop-place.from (found c)
    c.first_within.ensures.ordered c.requires c.loop-place.invariant (sym c.in-Some.ensures.found) (alike c) c.first_inside.ensures.ordered
    c.in-Some-first_inside.turn (sym c.in-Some-first_inside.ensures.found)

pub returns-in-None : goal.returns-in-None
returns-in-None c = search_stops c.args.low c.args.high.now c.args.local_as c.args.asn c.args.paths.now.entries c.args.self.now.places.keys
    c.loop-place.from (c.in-Some.place.now, c.in-Some.path.now) c.first_within.ensures.ordered c.requires c.loop-place.invariant
    (sym c.in-Some.ensures.found) (sym (ap (is_other c.args.local_as c.args.asn) c.path.ensures) ∙ sym c.is_other.ensures ∙ c.if-is_other.false)
    (sym c.in-None.ensures.found)

pub returns : goal.returns
returns c = search_ends c.args.low c.args.high.now c.args.local_as c.args.asn c.args.paths.now.entries c.loop-place.from c.loop-place.invariant
    (sym c.first_within.ensures.found ∙ ap (option_map (λ r. (r.0.now, r.1.now))) c.in_default.is)
