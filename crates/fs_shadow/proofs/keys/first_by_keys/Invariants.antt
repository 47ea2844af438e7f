use Rattle.fs_shadow.proofs.Words.{take, list_any, IsFirst, probes}
use Rattle.fs_shadow.proofs.keys.first_by_keys.Given as goal

-- of the rules that the measures so far ask for
abbrev pub invariant-loop-measure : goal.invariant-loop-measure
invariant-loop-measure l =
    IsFirst l.outlines l.later (λ key. list_any (probes key) (take l.measure-index l.later.measures.items)) l.start l.end l.place
