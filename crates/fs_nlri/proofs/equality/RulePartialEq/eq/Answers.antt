use Rattle.std.proofs.Common.{sym, ◌∙◌}
use Rattle.fs_nlri.proofs.Equal.{same_families, equal_rules}
use Rattle.fs_nlri.proofs.equality.RulePartialEq.eq.Goals as goal

pub returns-then-eq : goal.returns-then-eq
returns-then-eq c =
    equal_rules c.self.inside.family c.other.inside.family c.self.inside.components.items c.other.inside.components.items c.args.self.now
    c.args.other.now c.eq-then-eq.result c.self.view_is c.other.view_is
    (sym (same_families c.self.inside.family c.other.inside.family) ∙ sym c.eq.ensures ∙ c.if-eq.true) c.eq-then-eq.ensures
