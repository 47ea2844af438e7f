use Rattle.fs_flows.proofs.Words.{◌≤◌, sym, subst, AllByRecursion, is_related, kept_in, MendsKept, WereRight}
use Rattle.fs_flows.proofs.{Grouping.{grouped_mended, mends_kept}, Mending.{mends_keys, right_in}}
use Rattle.fs_flows.proofs.groups.Groups.mend.Goals as goal

pub invariant_of-self : goal.invariant_of-self
invariant_of-self g c = (
  grouped_mended c.args.unicast.now c.args.config.now c.args.swap.now.prefix c.self.inside.rest c.self.inside.most c.self.invariant.0 c.retest_related.ensures,
  subst (AllByRecursion (λ q. c.self.inside.shortest ≤ q.length))
      (sym (mends_keys c.args.unicast.now c.args.config.now (is_related c.args.swap.now.prefix) c.retest_related.ensures)) c.self.invariant.1,
)

pub returns : goal.returns
returns g c = subst (λ ks. MendsKept c.args.swap.now.prefix c.args.unicast.now c.args.config.now ks
    (kept_in c.retest_related.new.groups.entries c.self.inside.rest) c.args.changes.now c.retest_related.new.changes c.args.steps.now
    c.retest_related.new.steps)
    c.self.view_is (mends_kept c.args.unicast.now c.args.config.now c.args.swap.now.prefix c.self.inside.rest c.self.inside.most c.self.invariant.0
    c.retest_related.ensures)

pub retest_related-requires-clause-right : goal.retest_related-requires-clause-right
retest_related-requires-clause-right g c =
    right_in c.args.unicast.now c.args.config.now c.args.swap.now c.self.inside.groups.entries c.self.inside.rest c.self.invariant.0.placed
    (subst (WereRight c.args.swap.now c.args.unicast.now c.args.config.now) (sym c.self.view_is) c.requires)
