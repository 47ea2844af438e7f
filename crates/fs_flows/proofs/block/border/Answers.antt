use Rattle.fs_flows.proofs.Words.{◌≡◌, ◌≤◌, ◌/◌, sym, ap, subst, ◌∙◌, length, take, drop, arith, FlowRoute, AllBefore, place_in}
use Rattle.fs_flows.proofs.BlockOfRule.{apart_at, place_up_to}
use Rattle.fs_flows.proofs.block.border.Goals as goal

pub returns-in-Some-clause-inside : goal.returns-in-Some-clause-inside
returns-in-Some-clause-inside c = λ h. omega (arith, up, c.in-Some.ensures.lookup.3.0) where
  up : c.place_of.result ≤ length c.args.kept.now / 2
  up = subst (λ n. n ≤ length c.args.kept.now / 2)
      (sym (c.place_of.ensures.place ∙ ap (λ (r : FlowRoute). place_in r.rule 0 c.args.kept.now) c.route.ensures))
      (place_up_to c.in-Some.k.now c.args.kept.now (length c.args.kept.now / 2) c.in-Some.ensures.lookup.3.0 c.in-Some.ensures.lookup.1)

pub returns-in-Some-clause-apart : goal.returns-in-Some-clause-apart
returns-in-Some-clause-apart c =
    subst (λ n. AllBefore (take n c.args.kept.now) (drop n c.args.kept.now)) (sym place) (apart_at c.in-Some.k.now c.args.kept.now c.requires) where
      place : c.place_of.result ≡ place_in c.in-Some.k.now.route.rule 0 c.args.kept.now
      place = c.place_of.ensures.place ∙ ap (λ (r : FlowRoute). place_in r.rule 0 c.args.kept.now) c.route.ensures
