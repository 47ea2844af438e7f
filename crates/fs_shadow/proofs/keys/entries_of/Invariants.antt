use Rattle.fs_shadow.proofs.Words.{◌≡◌, ◌++◌, drop, entries_from}
use Rattle.fs_shadow.proofs.keys.entries_of.Given as goal

-- what stands and what is to come is the whole
abbrev pub invariant-loop-place : goal.invariant-loop-place
invariant-loop-place l = l.entries.items ++ entries_from l.place (drop l.place l.outlines) ≡ entries_from 0 l.outlines
