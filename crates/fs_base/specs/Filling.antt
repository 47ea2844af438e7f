-- What filling a buffer gives.
use Rattle.std.specs.Prelude.{ℕ, List, [], ◌++◌, Result, IsTrue, IfOk, OnErr, ◌≡◌, ◌≤◌, ◌+◌, min, length, take, drop}
use Rattle.fs_base.specs.{Draws.{PassesIn}, Outside.{Rose}, Parts.{window}}
use Rattle.fs_outside.specs.declared.files.Files as files
use Rattle.fs_base.specs.declared.counted.Counted.{Counted}

-- A buffer was filled from the octets that are judged, as far as both reach: so many were given, they stand at its
-- front, and they were taken from what was left.
pub record Fills (judged old new into : List ℕ) (count : ℕ) : Type 0 where
  pub count_is : count ≡ min (length into) (length judged)
  pub filled : take count into ≡ take count judged
  pub left : new ≡ drop count old

-- the same of files before and behind a call: the octets that were put back come first
abbrev pub FillsFrom : {F : Type 0} → files.Ghosts F → (old new : F) → (before now : Counted) → List ℕ → ℕ → Type 0
FillsFrom of_files old new before now into count =
    let ahead = before.back ++ of_files.left old before.slot in
    Fills (window before.limit before.taken ahead) ahead (now.back ++ of_files.left new before.slot) into count

-- so of a call that fills `into`, by what it answers
pub record FillsIn {F E : Type 0} (of_files : files.Ghosts F) (old new : F) (before now : Counted) (into : List ℕ) (result : Result ℕ E) : Type 0 where
  pub failed : OnErr result (Rose (of_files.faults old) (of_files.faults new))
  pub bound : IfOk result (λ n. n ≤ length into)
  pub taken : IfOk result (λ n. now.taken ≡ before.taken + n)
  pub filled : IsTrue of_files.tells → IfOk result (FillsFrom of_files old new before now into)
  pub back : IfOk result (λ n. now.back ≡ drop n before.back)
  pub none : before.back ≡ [] → now.back ≡ []
  pub passes : PassesIn of_files old new before now
