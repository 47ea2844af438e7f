use Rattle.std.proofs.Common.{◌≡◌, ◌<◌, sym, ◌∙◌, length, arith}
use Rattle.fs_rules.proofs.Runs.{starts_at, starts_first}
use Rattle.fs_rules.proofs.rivals.is_start.Goals as goal

pub returns-then-place-eq0-clause-start : goal.returns-then-place-eq0-clause-start
returns-then-place-eq0-clause-start c =
    λ h. starts_first c.args.rule.now c.args.kept.now c.args.place c.requires none inside (sym c.is_before.ensures ∙ c.if-is_before.false) where
      inside : c.args.place < length c.args.kept.now
      inside = omega arith

      none : c.args.place ≡ 0
      none = omega arith

pub returns-clause-start : goal.returns-clause-start
returns-clause-start c = λ h. starts_at c.args.rule.now c.args.kept.now c.args.place c.requires inside positive (sym c.is_before-2.ensures
    ∙ h) (sym c.is_before.ensures ∙ c.if-is_before.false) where
      inside : c.args.place < length c.args.kept.now
      inside = omega arith

      positive : 0 < c.args.place
      positive = omega arith
