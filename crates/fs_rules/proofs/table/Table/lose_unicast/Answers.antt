use Rattle.fs_rules.proofs.{Words.{sym, subst, List, Prefix, AreAmong}, Prefixes.{kept_still, among_held}}
use Rattle.fs_rules.proofs.table.Table.lose_unicast.Goals as goal

pub invariant_of-self : goal.invariant_of-self
invariant_of-self g c = kept_still c.self.inside.config.now c.self.inside.unicast c.self.inside.flows c.self.inside.counts c.take_prefixes.new.self
    c.take_prefixes.ensures.same c.take_prefixes.ensures.stays c.self.invariant

pub invariant_of-self-in-None : goal.invariant_of-self-in-None
invariant_of-self-in-None g c =
    kept_still c.self.inside.config.now c.self.inside.unicast c.self.inside.flows c.self.inside.counts c.take_prefixes.new.self
    c.take_prefixes.ensures.same c.take_prefixes.ensures.stays c.self.invariant

pub lose_along-requires-clause-among : goal.lose_along-requires-clause-among
lose_along-requires-clause-among g c = subst (λ (keys : List Prefix). AreAmong c.args.peer keys c.self.inside.unicast) (sym c.deref.ensures.value)
    (among_held c.self.inside.counts c.args.peer c.in-Some.prefixes.items c.self.inside.unicast (rw c.in-Some.is at c.take_prefixes.ensures.taken)
    c.self.invariant.held)
