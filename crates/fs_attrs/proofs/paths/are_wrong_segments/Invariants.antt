use Rattle.fs_attrs.proofs.Words.{◌≡◌, length, path_wrong}
use Rattle.fs_attrs.proofs.paths.are_wrong_segments.Given as goal

abbrev pub invariant-loop-segment : goal.invariant-loop-segment
invariant-loop-segment l = path_wrong l.terms l.rest ≡ path_wrong l.terms l.octets

abbrev pub decreases-loop-segment : goal.decreases-loop-segment
decreases-loop-segment l = length l.rest
