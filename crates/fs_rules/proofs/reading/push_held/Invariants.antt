use Rattle.fs_rules.proofs.Words.{◌≡◌, ◌++◌, map, kept_in, shown_held, judgement}
use Rattle.fs_rules.proofs.reading.push_held.Given as goal

abbrev pub invariant-loop-group : goal.invariant-loop-group
invariant-loop-group l = map shown_held l.list.items ++ map judgement (kept_in l.group-iterator l.rest) ≡ map shown_held l.fn.list.items
    ++ map judgement (kept_in l.groups.entries l.rest)
