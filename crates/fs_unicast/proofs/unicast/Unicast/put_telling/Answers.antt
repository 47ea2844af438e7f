use Rattle.fs_unicast.specs.Unicast.{IsSwap, IsSwapOf, swap_at}
use Rattle.fs_unicast.proofs.{Words.{◌<◌, ◌^◌, subst, IfSome, arith, each_insert, place_cmp}, Ranges.{place}, Swaps.{swap_of}}
use Rattle.fs_unicast.proofs.unicast.Unicast.put_telling.Goals as goal

pub invariant_of-self-2 : goal.invariant_of-self-2
invariant_of-self-2 c = rw c.in_ok-old.ensures.ok
    (each_insert place_cmp (λ place. place.peer < 2 ^ 16) (record { prefix = c.of.result; peer = c.args.peer }) c.args.path
    (omega (arith, c.ranges.peer)) c.self.inside.routes c.self.invariant)

pub returns-clause-swap : goal.returns-clause-swap
returns-clause-swap c = subst (λ held. IsSwapOf c.args.peer c.args.prefix (swap_at (place c.args.prefix c.args.peer) c.in-Some.old) held
    c.put.new.self) c.self.view_is
    (swap_of c.args.peer c.args.prefix c.of.result c.in-Some.old c.self.inside.routes c.put.new.self c.of.ensures
    (subst (λ told. IfSome told (λ old. IsSwap (swap_at (place c.of.result c.args.peer) old) c.self.inside.routes c.put.new.self)) c.in-Some.is
    c.in_ok-old.ensures.swap))
