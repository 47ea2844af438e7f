use Rattle.fs_order.proofs.{Words.{ap, ◌∙◌, is_lt}, Precede.{before_test}}
use Rattle.fs_order.proofs.comparison.precedes.Goals as goal

pub returns-clause-before : goal.returns-clause-before
returns-clause-before c = before_test c.args.a.now c.args.b.now c.is_lt.result c.compare.ensures.rules (c.is_lt.ensures ∙ ap is_lt c.compare.ensures.value)
