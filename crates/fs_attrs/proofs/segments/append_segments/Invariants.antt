use Rattle.fs_attrs.proofs.Words.{◌≡◌, ◌++◌, take, All, AreNumbers, segments_text}
use Rattle.fs_attrs.proofs.segments.append_segments.Given as goal

abbrev pub invariant-loop-segment : goal.invariant-loop-segment
invariant-loop-segment l = (l.out.items ≡ l.initial.out.items ++ segments_text l.four (take l.segment-index l.segments))
    × All AreNumbers (take l.segment-index l.segments)
