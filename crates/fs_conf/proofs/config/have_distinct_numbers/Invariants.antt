use Rattle.fs_conf.proofs.Words.{◌≡◌, length, are_distinct}
use Rattle.fs_conf.proofs.config.have_distinct_numbers.Given as goal

-- the peers passed have no double, of themselves and of those left
abbrev pub invariant-loop-rest : goal.invariant-loop-rest
invariant-loop-rest l = are_distinct l.initial.rest ≡ are_distinct l.rest

abbrev pub decreases-loop-rest : goal.decreases-loop-rest
decreases-loop-rest l = length l.rest
