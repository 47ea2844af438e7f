use Rattle.fs_conf.proofs.{Words.{◌≡◌, [], drop, take}, Judging.{numbers_in}}
use Rattle.fs_conf.specs.Fault.{first_again}
use Rattle.fs_conf.proofs.faults.first_again.Given as goal

-- what is left, beside those before, answers for all
abbrev pub invariant-loop-place : goal.invariant-loop-place
invariant-loop-place l = first_again (take l.place (numbers_in l.items)) (drop l.place (numbers_in l.items)) ≡ first_again [] (numbers_in l.items)
