use Rattle.fs_buckets.proofs.Words.{◌+◌, AreChanged}
use Rattle.fs_buckets.proofs.buckets.raise.Given as goal

abbrev pub invariant-loop-place : goal.invariant-loop-place
invariant-loop-place l = AreChanged l.from l.place (λ _ n. n + 1) l.initial.numbers l.numbers
