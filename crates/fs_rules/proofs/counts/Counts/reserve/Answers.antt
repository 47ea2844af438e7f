use Rattle.fs_rules.proofs.Words.{◌+◌, ◌<◌, ◌^◌, sym, ap, subst, ◌∙◌, nat_cmp, is_at, lookup, Holding, ok_weaker}
use Rattle.fs_rules.proofs.counts.Counts.reserve.Goals as goal

pub returns-in-Some-clause-room : goal.returns-in-Some-clause-room
returns-in-Some-clause-room c = ok_weaker _ _ c.can_rise.result (λ small. record {
  held = c.in-Some.held.now;
  there = ap (lookup (is_at (nat_cmp c.args.peer))) (sym c.self.view_is) ∙ sym c.in-Some.ensures.value;
  small = subst (λ (held : Holding). held.count + 1 < 2 ^ 64) c.held.view_is small;
}) c.can_rise.ensures
