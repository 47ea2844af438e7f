-- The matches of a packet as far as they have been sought.
use Rattle.std.specs.Prelude.{ℕ, ◌+◌, Option, Some, None, List}
use Rattle.fs_packet.specs.Fields.{Viewed}
use Rattle.fs_rules.specs.Lent.{Listed}
use Rattle.fs_ranges.specs.Facts.{AreFacts, Facts}
use Rattle.fs_compile.specs.Index.{Indexed, IsIndexOf}

-- among these rules, of a packet with these fields, from this number on
pub record Matching : Type 0 where
  pub index : Indexed
  pub facts : Facts
  pub from : ℕ

-- behind what was found
abbrev pub behind : Option ℕ → Matching → Matching
behind None matches = matches
behind (Some n) matches = record matches { from = n + 1 }

-- they are of this packet, among these rules of its family
pub record AreMatchesOf (view : Viewed) (rules : List Listed) (matches : Matching) : Type 0 where
  pub facts : AreFacts view matches.facts
  pub rules_are : IsIndexOf view.family rules matches.index
