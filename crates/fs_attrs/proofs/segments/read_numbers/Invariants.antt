use Rattle.fs_attrs.proofs.{Words.{◌≡◌, length, parts_of, first_as}, PartLists.{behind}}
use Rattle.fs_attrs.proofs.segments.read_numbers.Given as goal

abbrev pub invariant-loop-number : goal.invariant-loop-number
invariant-loop-number l = behind l.numbers.items (parts_of (first_as l.four) l.rest) ≡ parts_of (first_as l.four) l.octets

abbrev pub decreases-loop-number : goal.decreases-loop-number
decreases-loop-number l = length l.rest
