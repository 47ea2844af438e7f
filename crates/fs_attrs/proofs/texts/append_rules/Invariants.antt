use Rattle.fs_attrs.proofs.Words.{◌≡◌, ◌++◌, take, All, IsRule, rules_text}
use Rattle.fs_attrs.proofs.texts.append_rules.Given as goal

abbrev pub invariant-loop-rule : goal.invariant-loop-rule
invariant-loop-rule l = (l.out.items ≡ l.initial.out.items ++ rules_text (take l.rule-index l.rules)) × All IsRule (take l.rule-index l.rules)
