use Rattle.fs_conf.proofs.Words.{◌≡◌, suc, drop}
use Rattle.fs_conf.specs.RuleFault.{first_but, may_go}
use Rattle.fs_conf.proofs.rule_faults.first_long.Given as goal

-- what is left answers for all
abbrev pub invariant-loop-place : goal.invariant-loop-place
invariant-loop-place l = first_but (may_go l.config l.peer l.path) (suc l.place) (drop l.place l.rules) ≡ first_but (may_go l.config l.peer l.path) 1 l.rules
