use Rattle.fs_unicast.proofs.Words.{◌≡◌, ◌∙◌, sym, ap, subst, find, is_lt, option_map, IsStrictlySortedBy, neighbour, place_cmp, entry_now, without}
use Rattle.fs_unicast.proofs.Words.{IsParted}
use Rattle.fs_unicast.proofs.Gap.{without_last, without_next}
use Rattle.fs_unicast.proofs.turns.Turns.close_gap.Goals as goal

pub returns-else-are_alike : goal.returns-else-are_alike
returns-else-are_alike c = rw c.take_last.ensures.taken
    (without_last c.args.self.now.places.keys c.args.paths.now.entries c.args.place.now (neighbour c.args.gone.now.segments) c.requires.ordered
    c.requires.free c.requires.parted c.requires.around.before c.requires.around.after (option_map entry_now c.last_before-before.result)
    (option_map entry_now c.first_after-after.result) (sym c.last_before-before.ensures.found) (sym c.first_after-after.ensures.found)
    (rw (sym c.neighbour-asn.ensures) (sym c.names.ensures ∙ c.if-names.false))
    (rw (sym c.neighbour-asn.ensures) (sym c.names-2.ensures ∙ c.if-names-2.false)) c.take_last.result c.take_last.ensures.last)

pub returns-then-are_alike : goal.returns-then-are_alike
returns-then-are_alike c = let z = c.args.place.now in
    subst (λ ts. IsParted ts c.args.paths.now.entries)
    (sym (c.take_next.ensures.taken ∙ ap (λ ts. without ts c.take_next.result) c.take_last.ensures.taken))
    (without_next c.args.self.now.places.keys c.args.paths.now.entries z (neighbour c.args.gone.now.segments) c.requires.ordered c.requires.free
    c.requires.parted c.requires.around.before c.requires.around.after (option_map entry_now c.last_before-before.result)
    (option_map entry_now c.first_after-after.result) (sym c.last_before-before.ensures.found) (sym c.first_after-after.ensures.found)
    (rw (sym c.neighbour-asn.ensures) (sym c.names.ensures ∙ c.if-names.false))
    (rw (sym c.neighbour-asn.ensures) (sym c.names-2.ensures ∙ c.if-names-2.false)) c.take_last.result c.take_last.ensures.last
    (sym c.are_alike.ensures ∙ c.if-are_alike.true) (subst (IsStrictlySortedBy place_cmp) c.take_last.ensures.taken c.take_next.ensures.ordered)
    c.take_next.result (sym (subst (λ ts. c.take_next.result ≡ find (λ t. is_lt (place_cmp z t)) ts) c.take_last.ensures.taken c.take_next.ensures.found)))
