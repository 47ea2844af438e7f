use Rattle.fs_unicast.proofs.{Words.{◌∙◌, ap, option_copied, entries_between, Unbounded, place_cmp}, Ranges.{held_in_range}}
use Rattle.fs_unicast.proofs.search.held_by.Goals as goal

pub loop-place-init : goal.loop-place-init
loop-place-init c = held_in_range c.args.routes.now.entries c.into_iter-place-iterator.result c.args.peer (option_copied c.args.from)
    (c.into_iter-place-iterator.ensures.into_iter_gives ∙ c.range-place-items.ensures.between tt
    ∙ ap (λ b. entries_between place_cmp b Unbounded c.args.routes.now.entries) c.start.ensures)
