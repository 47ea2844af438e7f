use Rattle.fs_conf.proofs.Words.{◌≡◌, suc, false, drop, has_seen}
use Rattle.fs_conf.specs.RuleFault.{first_same}
use Rattle.fs_conf.proofs.rule_faults.first_same.Given as goal

-- what is left answers for all, beside those that were seen
abbrev pub invariant-loop-place : goal.invariant-loop-place
invariant-loop-place l = first_same (has_seen l.seen) (suc l.place) (drop l.place l.rules) ≡ first_same (λ rule. false) 1 l.rules
