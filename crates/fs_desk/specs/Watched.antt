-- The table, and where the rules that it admits may have changed.
use Rattle.fs_rules.specs.{Changes.{Covers}, Table.{Held}}
use Rattle.fs_desk.specs.declared.watched.Watched.{Watched}

-- What has changed among the admitted rules is noted: whatever was covered before still is.
abbrev pub Tells : Watched → Watched → Type 0
Tells old new = (base : Held) → Covers base old.changes old.table → Covers base new.changes new.table
