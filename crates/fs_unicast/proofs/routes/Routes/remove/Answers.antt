use Rattle.std.proofs.Common.{sym, subst, Some}
use Rattle.fs_unicast.{specs.Unicast.{IsSwap, swap_at}, proofs.{Gap.{parted_left, before_left, after_left}, Swaps.{swap_taken}}}
use Rattle.fs_unicast.proofs.routes.Routes.remove.Goals as goal

pub close_gap-requires-clause-parted : goal.close_gap-requires-clause-parted
close_gap-requires-clause-parted c =
    rw c.remove.ensures.entries (parted_left c.self.inside.turns.places.keys c.self.inside.paths.entries c.args.place.now c.in_ok-gone.gone
    (sym c.in_ok-gone.ensures.value) c.self.invariant.parted)

pub close_gap-requires-clause-around : goal.close_gap-requires-clause-around
close_gap-requires-clause-around c = let turns = c.self.inside.turns.places.keys in let held = c.self.inside.paths.entries in
    rw c.remove.ensures.entries (record {
      before = before_left turns held c.args.place.now c.in_ok-gone.gone (sym c.in_ok-gone.ensures.value) c.self.invariant.parted;
      after = after_left turns held c.args.place.now c.in_ok-gone.gone (sym c.in_ok-gone.ensures.value) c.self.invariant.parted;
    })

pub returns-clause-swap : goal.returns-clause-swap
returns-clause-swap c = subst (λ held. IsSwap (swap_at c.args.place.now (Some c.in_ok-gone.gone)) held c.remove.new.self.entries) c.self.view_is
    (swap_taken c.args.place.now c.in_ok-gone.gone c.self.inside.paths.entries c.remove.new.self.entries c.self.invariant.ordered c.remove.ensures.ordered
    c.remove.ensures.entries c.remove.ensures.updates.1 (sym c.in_ok-gone.ensures.value))
