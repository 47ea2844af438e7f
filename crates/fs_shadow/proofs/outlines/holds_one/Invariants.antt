use Rattle.fs_shadow.proofs.Words.{◌≡◌, drop, list_any, measure_lies_in}
use Rattle.fs_shadow.proofs.outlines.holds_one.Given as goal

-- what is left answers for all
abbrev pub invariant-loop-other : goal.invariant-loop-other
invariant-loop-other l =
    list_any (λ inner. measure_lies_in inner l.measure) (drop l.other-index l.others) ≡ list_any (λ inner. measure_lies_in inner l.measure) l.others
