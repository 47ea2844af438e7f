use Rattle.fs_rules.proofs.Words.{◌≡◌, slice_get, kept_in}
use Rattle.fs_rules.proofs.reading.held_at.Given as goal

abbrev pub invariant-loop-group : goal.invariant-loop-group
invariant-loop-group l = slice_get (kept_in l.group-iterator l.rest) l.left ≡ slice_get (kept_in l.groups.entries l.rest) l.n
