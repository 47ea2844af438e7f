use Rattle.fs_reports.proofs.Words.{◌≡◌, ◌++◌, map, drop, shown_held, invalid_lines}
use Rattle.fs_reports.proofs.rules.append_invalid.Given as goal

abbrev pub invariant-loop-route : goal.invariant-loop-route
invariant-loop-route l =
    l.text.items ++ invalid_lines l.family (map shown_held (drop l.route-index l.routes))
    ≡ l.fn.text.items ++ invalid_lines l.family (map shown_held l.routes)
