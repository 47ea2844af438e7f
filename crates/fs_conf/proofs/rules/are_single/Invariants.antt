use Rattle.fs_conf.proofs.{Words.{◌≡◌, drop, are_single, has_seen}, Single.{are_fresh}}
use Rattle.fs_conf.proofs.rules.are_single.Given as goal

-- no two of those passed are one rule, and what is left is to be tried beside them
abbrev pub invariant-loop-sent : goal.invariant-loop-sent
invariant-loop-sent l = are_single l.rules ≡ are_fresh (has_seen l.seen) (drop l.sent-index l.rules)
