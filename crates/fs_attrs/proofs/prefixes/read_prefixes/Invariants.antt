use Rattle.fs_attrs.proofs.{Words.{◌≡◌, length, map, parts_of, shown, first_prefix}, PartLists.{behind}}
use Rattle.fs_attrs.proofs.prefixes.read_prefixes.Given as goal

abbrev pub invariant-loop-prefix : goal.invariant-loop-prefix
invariant-loop-prefix l = behind (map shown l.prefixes.items) (parts_of (first_prefix l.family) l.rest) ≡ parts_of (first_prefix l.family) l.octets

abbrev pub decreases-loop-prefix : goal.decreases-loop-prefix
decreases-loop-prefix l = length l.rest
