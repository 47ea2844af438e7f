use Rattle.fs_unicast.proofs.Words.{◌≡◌, ◌∙◌, sym, ap, option_map, List, Some, true≢false, find, true, is_lt, place_cmp, is_after, is_at_or_after}
use Rattle.fs_unicast.proofs.Words.{entry_now, stands_at, PartsAt, IsParted, Place, Route}
use Rattle.fs_unicast.proofs.{Finding.{found_passes}, Gap.{rest_of, still_here, parted_moved}, Parting.{next_behind, parted_here, parted_aft}}
use Rattle.fs_unicast.proofs.turns.Turns.part.Goals as goal

-- The turn at the route after moved to the place.
module _ (c : goal.After-remove) where
  abbrev held : List Route
  held = c.args.beside.now.paths.now.entries

  abbrev z : Place
  z = c.args.beside.now.place

  abbrev turns : List Place
  turns = c.part_both.new.self.places.keys

  abbrev next : Route
  next = (c.in-Some.turn.now, c.in-Some.path.now)

  next_is : find (is_at_or_after z) held ≡ Some next
  next_is = sym c.requires.beside.next ∙ ap (option_map entry_now) c.in-Some.is

  after_is : find (is_after z) held ≡ Some next
  after_is = sym (next_behind held z (Some next) next_is
      (ap (λ o. stands_at z (option_map entry_now o)) (sym c.in-Some.is) ∙ sym c.is_taken.ensures ∙ c.if-is_taken.false))

  past : is_lt (place_cmp z next.0) ≡ true
  past = found_passes (is_after z) held next after_is

  here : PartsAt turns z
  here = c.in_ok-there.ensures.here (sym c.is_alike.ensures ∙ c.if-not-is_alike.true)

  parted : IsParted (rest_of turns next.0) held
  parted = parted_moved turns held z (option_map entry_now c.args.beside.now.before) next
      c.requires.beside.ordered c.in_ok-there.ensures.parted (sym c.requires.beside.before) next_is past here

pub returns-in-Some-clause-parted : goal.returns-in-Some-clause-parted
returns-in-Some-clause-parted c = rw c.remove.ensures.keys (parted c)

pub returns-in-Some-clause-around : goal.returns-in-Some-clause-around
returns-in-Some-clause-around c = rw c.remove.ensures.keys (record {
  before = parted_here (rest_of (turns c) (next c).0) (held c) (z c) c.args.asn (still_here (turns c) (z c) (next c).0 (here c) (past c));
  after = parted_aft (rest_of (turns c) (next c).0) (held c) (z c) c.args.asn (Some (next c)) c.requires.beside.ordered (after_is c) (parted c)
      (λ other. absurd (true≢false (sym (sym c.has_neighbour.ensures ∙ c.if-has_neighbour.true) ∙ other)));
})
