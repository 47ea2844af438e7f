use Rattle.fs_unicast.proofs.Words.{List, sym, option_map, entry_now, IsParted, Place, Route}
use Rattle.fs_unicast.proofs.Parting.{parts_on, stays_all, stays_before, parted_fore, parted_aft}
use Rattle.fs_unicast.proofs.turns.Turns.part_both.Goals as goal

pub returns-in_err-behind-clause-parted : goal.returns-in_err-behind-clause-parted
returns-in_err-behind-clause-parted c = stays_all c.args.self.now.places.keys c.part_after.new.self.places.keys c.args.beside.now.paths.now.entries
    (λ x y h. c.part_after.ensures.stays x y (c.part_before.ensures.stays x y h)) c.requires.parted

-- Both turns are put.
module _ (c : goal.In_ok-behind) where
  abbrev held : List Route
  held = c.args.beside.now.paths.now.entries

  abbrev first : List Place
  first = c.part_before.new.self.places.keys

  abbrev both : List Place
  both = c.part_after.new.self.places.keys

  parted_first : IsParted first held
  parted_first = stays_all c.args.self.now.places.keys first held c.part_before.ensures.stays c.requires.parted

  parted : IsParted both held
  parted = stays_all first both held c.part_after.ensures.stays parted_first

pub returns-clause-parted : goal.returns-clause-parted
returns-clause-parted c = parted c

pub returns-clause-around : goal.returns-clause-around
returns-clause-around c = record {
  before = stays_before (first c) (both c) (held c) c.args.beside.now.place c.args.asn c.part_after.ensures.stays
      (parted_fore (first c) (held c) c.args.beside.now.place c.args.asn (option_map entry_now c.args.beside.now.before)
      c.requires.beside.ordered (sym c.requires.beside.before) (parted_first c) c.in_ok-here.ensures.ok);
  after = parted_aft (both c) (held c) c.args.beside.now.place c.args.asn (option_map entry_now c.args.beside.now.after)
      c.requires.beside.ordered (sym c.requires.beside.after) (parted c) c.in_ok-behind.ensures.ok;
}

pub returns-clause-here : goal.returns-clause-here
returns-clause-here c other = parts_on (first c) (both c) c.args.beside.now.place c.part_after.ensures.stays (c.in_ok-here.ensures.ok other)
