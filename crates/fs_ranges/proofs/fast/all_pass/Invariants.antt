use Rattle.fs_ranges.proofs.Words.{◌≡◌, drop, list_all, passes}
use Rattle.fs_ranges.proofs.fast.all_pass.Given as goal

-- what is left answers for all
abbrev pub invariant-loop-test : goal.invariant-loop-test
invariant-loop-test l = list_all (passes l.facts) (drop l.test-index l.tests) ≡ list_all (passes l.facts) l.tests
