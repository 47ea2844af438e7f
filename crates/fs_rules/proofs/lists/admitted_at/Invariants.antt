use Rattle.fs_rules.proofs.Words.{◌≡◌, filter, drop, slice_get, is_chosen, chosen}
use Rattle.fs_rules.proofs.lists.admitted_at.Given as goal

abbrev pub invariant-loop-place : goal.invariant-loop-place
invariant-loop-place l = slice_get (filter (is_chosen l.family l.kept) (drop l.place l.kept)) l.left ≡ slice_get (chosen l.family l.kept) l.n
