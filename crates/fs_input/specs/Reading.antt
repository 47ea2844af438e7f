-- What reading the next part of an input tells.
use Rattle.std.specs.Prelude.{ℕ, Option, Some, None, Result, Ok, Err, ◌≤◌, ◌<◌, ⊤}
use Rattle.fs_input.specs.declared.fault.Fault.{Fault}

-- what is told of a part that was read
abbrev pub answer_told : {T E : Type 0} → Result (Option T) E → Option T
answer_told (Ok told) = told
answer_told (Err fault) = None

-- the same, where the input may have ended before the part
abbrev pub part_told : {T E : Type 0} → Result (Option (Option T)) E → Option T
part_told (Ok None) = None
part_told (Ok (Some told)) = told
part_told (Err fault) = None

-- A part that tells something raises the place, up to the limit at most.
abbrev pub Grows : {T R : Type 0} → (old new limit : ℕ) → Result (Option T) (Fault R) → Type 0
Grows old new limit (Ok (Some told)) = (old < new) × (new ≤ limit)
Grows old new limit (Ok None) = ⊤
Grows old new limit (Err fault) = ⊤
