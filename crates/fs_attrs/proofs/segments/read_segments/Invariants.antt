use Rattle.fs_attrs.proofs.{Words.{◌≡◌, length, parts_of, first_segment}, PartLists.{behind}}
use Rattle.fs_attrs.proofs.segments.read_segments.Given as goal

abbrev pub invariant-loop-segment : goal.invariant-loop-segment
invariant-loop-segment l = behind l.segments.items (parts_of (first_segment l.four) l.rest) ≡ parts_of (first_segment l.four) l.octets

abbrev pub decreases-loop-segment : goal.decreases-loop-segment
decreases-loop-segment l = length l.rest
