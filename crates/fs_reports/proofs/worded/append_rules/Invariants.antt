use Rattle.fs_reports.{proofs.Words.{◌≡◌, ◌++◌, drop, map, shown_lent}, specs.Worded.{rule_lines}}
use Rattle.std.specs.String.{string_bytes}
use Rattle.fs_reports.proofs.worded.append_rules.Given as goal

-- with what is left, all is there
abbrev pub invariant-loop-rule : goal.invariant-loop-rule
invariant-loop-rule l =
    string_bytes l.text ++ rule_lines (map shown_lent (drop l.rule-index l.rules))
    ≡ string_bytes l.fn.text ++ rule_lines (map shown_lent l.rules)
