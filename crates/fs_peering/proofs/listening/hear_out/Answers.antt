use Rattle.std.proofs.Common.{rules, arith, refl, ◌∙◌}
use Rattle.fs_peering.proofs.Attending.{hears_out, listens_more, listens_none}
use Rattle.fs_peering.proofs.listening.hear_out.Goals as goal

pub loop-round-init : goal.loop-round-init
loop-round-init g c = record {
  later = search rules;
  within = c.requires.some;
  opened = c.requires.open;
  sent = refl;
  own = refl;
  listens =
      listens_none _ _ _ _ _;
}

pub loop-round-preserved : goal.loop-round-preserved
loop-round-preserved g c = record {
  later = search rules;
  within = search rules;
  opened = search rules;
  sent = c.in_ok-round.ensures.sent ∙ c.loop-round.invariant.sent;
  own = c.in_ok-round.ensures.own ∙ c.loop-round.invariant.own;
  listens = listens_more c.loop-round.invariant.listens _ _ _ _ _ _ c.in_ok-round.ensures.round c.in_ok-round.ensures.moment _
      (c.in_ok-round.ensures.count (c.requires.deaf _ (c.in_ok-round.ensures.own ∙ c.loop-round.invariant.own) (search rules)));
}

pub returns-then-is_over-clause-heard : goal.returns-then-is_over-clause-heard
returns-then-is_over-clause-heard g c =
    hears_out c.loop-round.invariant.listens _ _ _ _ _ _ c.in_ok-round.ensures.round c.in_ok-round.ensures.moment _ _ _ _
    (omega (arith, c.in_ok-round.ensures.within, c.loop-round.invariant.within)) (λ left none. search rules)

pub returns-then-limit-count-clause-heard : goal.returns-then-limit-count-clause-heard
returns-then-limit-count-clause-heard g c =
    hears_out c.loop-round.invariant.listens _ _ _ _ _ _ c.in_ok-round.ensures.round c.in_ok-round.ensures.moment _ _ _ _
    (omega (arith, c.in_ok-round.ensures.within, c.loop-round.invariant.within)) (λ left none. (search rules, search rules))

pub returns-then-round-eq0-clause-heard : goal.returns-then-round-eq0-clause-heard
returns-then-round-eq0-clause-heard g c =
    hears_out c.loop-round.invariant.listens _ _ _ _ _ _ c.in_ok-round.ensures.round c.in_ok-round.ensures.moment _ _ _ _
    (omega (arith, c.in_ok-round.ensures.within, c.loop-round.invariant.within)) (λ left none. (search rules, (search rules, none (search rules))))
