use Rattle.fs_reports.proofs.Words.{◌≡◌, ◌+◌, ◌++◌, map, drop, shown_lent, admitted_lines}
use Rattle.fs_reports.proofs.rules.append_admitted.Given as goal

abbrev pub invariant-loop-place : goal.invariant-loop-place
invariant-loop-place l =
    l.text.items ++ admitted_lines l.family (l.place + 1) (map shown_lent (drop l.place l.rules))
    ≡ l.fn.text.items ++ admitted_lines l.family 1 (map shown_lent l.rules)
