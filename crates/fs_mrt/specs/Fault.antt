-- The names of faults, as they are printed.
use Rattle.std.specs.Prelude.{ℕ, List, codes}
use Rattle.fs_mrt.specs.declared.fault.DumpReason.{DumpReason, TheVariants.{Cut, Length, Family, Message}}

abbrev pub reason_name : DumpReason → List ℕ
reason_name Cut = codes "Cut"
reason_name Length = codes "Length"
reason_name Family = codes "Family"
reason_name Message = codes "Message"
