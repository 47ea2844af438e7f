use Rattle.fs_unicast.specs.Unicast.{IsSwapOf, swap_at}
use Rattle.fs_unicast.proofs.{Words.{◌<◌, ◌^◌, subst, Some, is_at, each_remove, place_cmp}, Ranges.{place}, Swaps.{swap_of}}
use Rattle.fs_unicast.proofs.unicast.Unicast.remove_telling.Goals as goal

pub invariant_of-self : goal.invariant_of-self
invariant_of-self c = rw c.remove.ensures.removed
    (each_remove (λ r. r.0.peer < 2 ^ 16) (is_at (place_cmp (record { prefix = c.of.result; peer = c.args.peer }))) c.self.inside.routes
    c.self.invariant)

pub invariant_of-self-2 : goal.invariant_of-self-2
invariant_of-self-2 c = rw c.remove.ensures.removed
    (each_remove (λ r. r.0.peer < 2 ^ 16) (is_at (place_cmp (record { prefix = c.of.result; peer = c.args.peer }))) c.self.inside.routes
    c.self.invariant)

pub returns-clause-swap : goal.returns-clause-swap
returns-clause-swap c = subst (λ held. IsSwapOf c.args.peer c.args.prefix.now (swap_at (place c.args.prefix.now c.args.peer) (Some c.in_ok-gone.gone))
    held c.remove.new.self) c.self.view_is
    (swap_of c.args.peer c.args.prefix.now c.of.result (Some c.in_ok-gone.gone) c.self.inside.routes c.remove.new.self c.of.ensures c.in_ok-gone.ensures.swap)
