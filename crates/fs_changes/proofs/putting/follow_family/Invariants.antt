use Rattle.fs_changes.proofs.{Words.{filter, length, string_bytes, admitted, is_due}, Following.{Followed}}
use Rattle.fs_changes.proofs.putting.follow_family.Given as goal

abbrev pub invariant-places : goal.invariant-places
invariant-places l = Followed l.family l.moment l.fn.rules.items (admitted l.family l.table) l.rules.items l.last (string_bytes l.fn.text) (string_bytes l.text)

abbrev pub decreases-places : goal.decreases-places
decreases-places l = length (filter (is_due l.family l.last) l.noted.places)
