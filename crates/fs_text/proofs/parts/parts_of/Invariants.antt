use Rattle.fs_text.proofs.Words.{◌≡◌, ◌++◌, length, map, parts_of, as_part}
use Rattle.fs_text.proofs.parts.parts_of.Given as goal

-- with the parts of what is left, all are there
abbrev pub invariant-loop-rest : goal.invariant-loop-rest
invariant-loop-rest l = map as_part l.parts.items ++ parts_of l.rest ≡ parts_of l.word

abbrev pub decreases-loop-rest : goal.decreases-loop-rest
decreases-loop-rest l = length l.rest
