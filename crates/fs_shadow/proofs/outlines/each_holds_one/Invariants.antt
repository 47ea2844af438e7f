use Rattle.fs_shadow.proofs.Words.{◌≡◌, drop, list_all, list_any, measure_lies_in}
use Rattle.fs_shadow.proofs.outlines.each_holds_one.Given as goal

-- what is left answers for all
abbrev pub invariant-loop-measure : goal.invariant-loop-measure
invariant-loop-measure l =
    list_all (λ outer. list_any (λ inner. measure_lies_in inner outer) l.others) (drop l.measure-index l.measures)
    ≡ list_all (λ outer. list_any (λ inner. measure_lies_in inner outer) l.others) l.measures
