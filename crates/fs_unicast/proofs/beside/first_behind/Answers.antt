use Rattle.fs_unicast.proofs.{Words.{◌∙◌, sym, option_map, entry_now}, Parting.{next_behind}}
use Rattle.fs_unicast.proofs.beside.first_behind.Goals as goal

pub returns-else-stands_at : goal.returns-else-stands_at
returns-else-stands_at c = next_behind c.args.paths.now.entries c.args.place.now (option_map entry_now c.args.next) (sym c.requires)
    (sym c.stands_at.ensures ∙ c.if-stands_at.false)
