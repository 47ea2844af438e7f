use Rattle.fs_shadow.proofs.Words.{◌≡◌, drop, list_all, implied_around}
use Rattle.fs_shadow.proofs.points.implied_around_all.Given as goal

-- what is left answers for all
abbrev pub invariant-loop-value : goal.invariant-loop-value
invariant-loop-value l =
    list_all (λ pair. implied_around l.inner l.outer pair.1) (drop l.value-index l.pairs) ≡ list_all (λ pair. implied_around l.inner l.outer pair.1) l.pairs
