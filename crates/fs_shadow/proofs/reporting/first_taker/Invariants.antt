use Rattle.fs_shadow.proofs.Words.{◌≡◌, ◌+◌, drop, first_taker}
use Rattle.fs_shadow.proofs.reporting.first_taker.Given as goal

-- what is left answers for all
abbrev pub invariant-loop-place : goal.invariant-loop-place
invariant-loop-place l = first_taker (l.start + l.place) (drop l.place l.earlier) l.later ≡ first_taker l.start l.earlier l.later
