use Rattle.fs_flows.proofs.{Words.{subst, sym, [], ◌∷◌, AllByRecursion, each_append, IsOwn}, Noting.{covers_more, noted_more, stays_more}}
use Rattle.fs_flows.proofs.noted.Changes.note.Goals as goal

pub returns-then-len-capacity-clause-covers : goal.returns-then-len-capacity-clause-covers
returns-then-len-capacity-clause-covers c =
    λ base old new h k. covers_more base old new c.args.self.now c.self.inside.places.items c.push_reserved.new.self.items c.self.inside.all
    c.args.change c.self.view_is c.push_reserved.ensures.items h k

pub returns-then-len-capacity-clause-stays : goal.returns-then-len-capacity-clause-stays
returns-then-len-capacity-clause-stays c =
    stays_more c.args.self.now c.self.inside.places.items c.push_reserved.new.self.items c.self.inside.all c.args.change c.self.view_is
    c.push_reserved.ensures.items

pub returns-then-len-capacity-clause-noted : goal.returns-then-len-capacity-clause-noted
returns-then-len-capacity-clause-noted c =
    noted_more c.self.inside.places.items c.push_reserved.new.self.items c.self.inside.all c.args.change c.push_reserved.ensures.items

pub invariant_of-self : goal.invariant_of-self
invariant_of-self c = subst (AllByRecursion IsOwn) (sym c.push_reserved.ensures.items)
    (each_append IsOwn c.self.inside.places.items (c.args.change ∷ []) c.self.invariant (c.requires, tt))
