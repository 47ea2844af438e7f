use Rattle.std.proofs.Common.{◌≤◌, length}
use Rattle.fs_text.proofs.Pairs.{Left}
use Rattle.fs_text.proofs.lists.loose_pairs.Given as goal

-- whatever pairs the word is the text of, these are read of them, and the text of the others is left
abbrev pub invariant-loop-plain : goal.invariant-loop-plain
invariant-loop-plain l = (l.joined ≤ 64) × Left l.kind l.word l.pairs.items l.joined l.rest

abbrev pub decreases-loop-plain : goal.decreases-loop-plain
decreases-loop-plain l = length l.rest
