-- What the rules of a field are by the grammar of flow rules.
use Rattle.std.specs.Prelude.{ℕ, List}
use Rattle.fs_base.specs.declared.prefix.Family.{Family}
use Rattle.fs_nlri.specs.{Outcome.{IsFieldOutcome}, Reading.{rules_of}}

-- Whole frames one after the other are read as their rules; else the fault is that of the first octets that are none.
abbrev pub IsTheOutcome : Type 0
IsTheOutcome = (family : Family) (octets : List ℕ) → IsFieldOutcome family octets (rules_of family octets)
