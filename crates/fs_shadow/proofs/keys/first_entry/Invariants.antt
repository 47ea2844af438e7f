use Rattle.fs_shadow.proofs.Words.{◌≡◌, drop, first_entry}
use Rattle.fs_shadow.proofs.keys.first_entry.Given as goal

-- what is left answers for all
abbrev pub invariant-loop-entry : goal.invariant-loop-entry
invariant-loop-entry l =
    first_entry l.outlines l.later l.key l.end (drop l.entry-index l.entries) ≡ first_entry l.outlines l.later l.key l.end l.entries
