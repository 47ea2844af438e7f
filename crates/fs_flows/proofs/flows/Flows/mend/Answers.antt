use Rattle.fs_flows.proofs.{Words.{◌++◌, sym, subst, V4, V6, MendsKept, WereRight}, Along.{listed_mended}}
use Rattle.fs_flows.proofs.{BothFamilies.{mended_now, mends_families, rules_each}, Mending.{right_first, right_second}}
use Rattle.fs_flows.proofs.flows.Flows.mend.Goals as goal

pub mend-requires : goal.mend-requires
mend-requires g c = right_first c.args.unicast.now c.args.config.now c.args.swap.now c.self.inside.v4 c.self.inside.v6
    (subst (WereRight c.args.swap.now c.args.unicast.now c.args.config.now) (sym c.self.view_is) c.requires)

pub mend-requires-2 : goal.mend-requires-2
mend-requires-2 g c = right_second c.args.unicast.now c.args.config.now c.args.swap.now c.self.inside.v4 c.self.inside.v6
    (subst (WereRight c.args.swap.now c.args.unicast.now c.args.config.now) (sym c.self.view_is) c.requires)

pub invariant_of-self : goal.invariant_of-self
invariant_of-self g c = (
  record {
    first = mended_now V4 c.args.swap.now.prefix c.args.unicast.now c.args.config.now c.self.inside.v4 c.mend.new.self c.mend.ensures.kept
        c.self.invariant.0.first;
    second =
        mended_now V6 c.args.swap.now.prefix c.args.unicast.now c.args.config.now c.self.inside.v6 c.mend-2.new.self c.mend-2.ensures.kept
        c.self.invariant.0.second;
  },
  record {
    first = listed_mended c.self.inside.listed c.args.swap.now.prefix c.args.unicast.now c.args.config.now c.self.inside.v4 c.mend.new.self
        c.mend.ensures.kept c.self.invariant.1.first;
    second =
        listed_mended c.self.inside.listed c.args.swap.now.prefix c.args.unicast.now c.args.config.now c.self.inside.v6 c.mend-2.new.self
        c.mend-2.ensures.kept c.self.invariant.1.second;
  },
)

pub returns-clause-mends : goal.returns-clause-mends
returns-clause-mends g c = subst
    (λ ks. MendsKept c.args.swap.now.prefix c.args.unicast.now c.args.config.now ks (c.mend.new.self ++ c.mend-2.new.self) c.args.changes.now
    c.mend-2.new.changes c.args.steps.now c.mend-2.new.steps)
    c.self.view_is (mends_families c.args.swap.now.prefix c.args.unicast.now c.args.config.now c.mend.ensures c.mend-2.ensures)

pub returns-clause-rules : goal.returns-clause-rules
returns-clause-rules g c = rules_each c.self.inside.v4 c.self.inside.v6 c.args.self.now c.self.view_is c.self.invariant.0
