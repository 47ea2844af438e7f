-- When octets are what stands behind a type, by its form, and when no such body stands at their front.
use Rattle.std.specs.Prelude.{ℕ, List, Option, Some, None}
use Rattle.fs_base.specs.Language.{NoFront, IsCut, IsFirstFault}
use Rattle.fs_nlri.specs.declared.fault.{Reason.{Reason, TheVariants.{Cut, NoType, Order, Length}}, NlriFault.{NlriFault, TheVariants.{Bad, Memory}}}
use Rattle.fs_nlri.specs.{Forms.{Form}, Parts.{Body}, Spelling.{SpellsBody}, Fault.{IsRole}}

-- the octets are a body of the form
pub record IsBody (form : Form) (octets : List ℕ) : Type 0 where
  pub body : Body
  pub spells : SpellsBody form octets body

-- no body stands at the front: the octets end within one, or an octet is the first with which none goes on
abbrev pub IsBodyBad : Form → List ℕ → Reason → ℕ → Type 0
IsBodyBad form octets Cut place = NoFront (IsBody form) octets × IsCut (IsBody form) octets place
IsBodyBad form octets NoType place = ⊥
IsBodyBad form octets Order place = ⊥
IsBodyBad form octets Length place = ⊥
IsBodyBad form octets reason place = NoFront (IsBody form) octets × IsFirstFault (IsBody form) octets place × IsRole reason form octets place

abbrev pub IsBodyFault : Form → List ℕ → NlriFault → Type 0
IsBodyFault form octets (Bad reason place) = IsBodyBad form octets reason place
IsBodyFault form octets Memory = Unit {0}

abbrev pub IsFaultAt : Option Form → List ℕ → NlriFault → Type 0
IsFaultAt None octets fault = ⊥
IsFaultAt (Some form) octets fault = IsBodyFault form octets fault
