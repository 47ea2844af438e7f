-- Fields whose octets were taken together are judged one by one: what is said of them is what the chain of these fields
-- says, told the octets in hand.
use Rattle.std.specs.Prelude.{ℕ, Result, Ok, Err}
use Rattle.fs_input.specs.NextRecord.{short_fault}
use Rattle.fs_input.specs.declared.{fault.Fault.{Fault, TheVariants.{Bad}}, judging.Judged.{Judged, TheVariants.{Whole, Wrong, Partial}}}
use Rattle.fs_input.specs.Scan.{Scan, got, partial, wrong}

-- what a chain of so many octets says
abbrev pub scan_of : {A R : Type 0} → ℕ → Judged A R → Scan A R
scan_of size (Whole value) = got value size
scan_of size (Wrong reason place) = wrong reason place
scan_of size Partial = partial

-- what is answered of fields of which so many octets were taken
abbrev pub settled : {A R : Type 0} → R → (taken limit : ℕ) → Judged A R → Result A (Fault R)
settled cut taken limit (Whole value) = Ok value
settled cut taken limit (Wrong reason place) = Err (Bad reason place)
settled cut taken limit Partial = Err (short_fault cut taken limit)
