use Rattle.fs_rules.proofs.Words.{◌≡◌, ◌++◌, map, drop, shown_held, judgement}
use Rattle.fs_rules.proofs.lists.push_held.Given as goal

abbrev pub invariant-loop-k : goal.invariant-loop-k
invariant-loop-k l = map shown_held l.list.items ++ map judgement (drop l.k-index l.kept) ≡ map shown_held l.fn.list.items ++ map judgement l.kept
