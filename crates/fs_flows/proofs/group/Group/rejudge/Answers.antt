use Rattle.fs_flows.proofs.Words.{◌≡◌, ◌↔◌, false, refl, sym, ap, subst, ◌∙◌, map, AllByRecursion, AreJudged, rejudged, flat, IsCut, routes_in}
use Rattle.fs_flows.proofs.Words.{AreWell, the_invariant, the_view}
use Rattle.fs_flows.proofs.{Cutting.{flat_map, cut_map, each_flat, flat_each, written}, Mending.{told_as}}
use Rattle.fs_flows.proofs.group.Group.rejudge.Goals.{in-One, in-Many}
use Rattle.fs_flows.proofs.group.Group.rejudge.Goals as goal

pub invariant_of-self : goal.invariant_of-self
invariant_of-self c = elim c.match-self.branch [
  | in-One w ↦ subst the_invariant (sym w.self-inside-is) tt
  | in-Many w ↦ subst the_invariant (sym w.self-inside-is)
      (subst IsCut (sym (written (map (rejudged c.args.config.now c.args.basis.now)) w.in-Many.blocks.items w.retest_each.new.blocks
      w.deref_mut.result.now _ w.in-Many.blocks.len w.retest_each.ensures.retested w.deref_mut.ensures.value w.deref_mut.ensures.len))
      (cut_map (rejudged c.args.config.now c.args.basis.now) (λ k. refl) w.in-Many.blocks.items (subst AreWell w.in-Many.is c.self.invariant)))
]

pub returns-clause-retested : goal.returns-clause-retested
returns-clause-retested c = elim c.match-self.branch [
  | in-One w ↦ ap the_view w.self-inside-is ∙ w.retest.ensures.retested
      ∙ ap (map (rejudged c.args.config.now c.args.basis.now)) (ap routes_in (sym w.in-One.is) ∙ c.self.view_is)
  | in-Many w ↦ ap the_view w.self-inside-is
      ∙ ap flat (written (map (rejudged c.args.config.now c.args.basis.now)) w.in-Many.blocks.items w.retest_each.new.blocks w.deref_mut.result.now _
      w.in-Many.blocks.len w.retest_each.ensures.retested w.deref_mut.ensures.value w.deref_mut.ensures.len)
      ∙ flat_map (rejudged c.args.config.now c.args.basis.now) w.in-Many.blocks.items
      ∙ ap (map (rejudged c.args.config.now c.args.basis.now)) (ap routes_in (sym w.in-Many.is) ∙ c.self.view_is)
]

pub returns-clause-told : goal.returns-clause-told
returns-clause-told c = elim c.match-self.branch [
  | in-One w ↦ subst (λ b. (b ≡ false) ↔ AreJudged c.args.config.now c.args.basis.now c.args.self.now) (sym w.result-is)
      (subst (λ ks. (w.retest.result ≡ false) ↔ AreJudged c.args.config.now c.args.basis.now ks) (ap routes_in (sym w.in-One.is)
      ∙ c.self.view_is) w.retest.ensures.told)
  | in-Many w ↦ subst (λ b. (b ≡ false) ↔ AreJudged c.args.config.now c.args.basis.now c.args.self.now) (sym w.result-is)
      (subst (λ ks. (w.retest_each.result ≡ false) ↔ AreJudged c.args.config.now c.args.basis.now ks) (ap routes_in (sym w.in-Many.is) ∙ c.self.view_is)
      (told_as w.retest_each.result (λ h. each_flat _ w.in-Many.blocks.items h) (λ h. flat_each _ w.in-Many.blocks.items h)
      (subst (λ bs. (w.retest_each.result ≡ false) ↔ AllByRecursion (AreJudged c.args.config.now c.args.basis.now) bs) w.deref_mut.ensures.value
      w.retest_each.ensures.told)))
]
