use Rattle.fs_rules.proofs.Words.{◌≡◌, ◌<◌, ◌+◌, ◌-◌, true, sym, ap, ◌∙◌, slice_get, arith, FlowRoute, is_apart, is_before_rule}
use Rattle.fs_rules.proofs.Alone.{alone_first, alone_at}
use Rattle.fs_rules.proofs.rivals.is_alone.Goals as goal

pub returns-then-place-eq0 : goal.returns-then-place-eq0
returns-then-place-eq0 c = λ _. alone_first c.args.k.now c.args.kept.now c.args.place c.requires.sorted c.requires.inside c.requires.there next none where
  next : is_apart c.args.k.now (slice_get c.args.kept.now (c.args.place + 1)) ≡ true
  next = sym c.is_apart.ensures ∙ c.if-not-is_apart.false

  none : c.args.place ≡ 0
  none = omega arith

pub returns : goal.returns
returns c = λ h. alone_at c.args.k.now c.args.kept.now c.args.place c.requires.sorted c.requires.inside c.requires.there next positive
    (sym (c.is_before.ensures ∙ ap (λ (r : FlowRoute). is_before_rule r.rule (slice_get c.args.kept.now (c.args.place - 1))) c.route.ensures) ∙ h) where
      next : is_apart c.args.k.now (slice_get c.args.kept.now (c.args.place + 1)) ≡ true
      next = sym c.is_apart.ensures ∙ c.if-not-is_apart.false

      positive : 0 < c.args.place
      positive = omega arith
