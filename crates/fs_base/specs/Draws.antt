-- What reading up to a limit takes of a slot, and what a call that reads does to the files.
use Rattle.std.specs.Prelude.{ℕ, List, Option, Bool, IsTrue, ◌≡◌, ◌≤◌, ◌+◌, ◌-◌, length, drop}
use Rattle.fs_base.specs.Files.{LeavesOthers, Opened}
use Rattle.fs_outside.specs.declared.files.Files as files
use Rattle.fs_base.specs.declared.counted.Counted.{Counted}

-- octets of an input were taken, of which so many were taken before, and none past the limit
pub record Passed (limit taken taken' : ℕ) (left left' : List ℕ) : Type 0 where
  pub count : ℕ
  pub taken_is : taken' ≡ taken + count
  pub within : taken' ≤ limit
  pub left_is : left' ≡ drop count left

-- of an input of which nothing was taken before
abbrev pub PassedWithin : (limit : ℕ) → (left left' : List ℕ) → Type 0
PassedWithin limit left left' = (taken : ℕ) × Passed limit 0 taken left left'

-- the same where octets were put back: these are taken first, and then the slot's
pub record Draws (before now : Counted) (left left' : List ℕ) : Type 0 where
  pub count : ℕ
  pub taken_is : now.taken ≡ before.taken + count
  pub within : now.taken ≤ before.limit
  pub back_is : now.back ≡ drop count before.back
  pub left_is : left' ≡ drop (count - length before.back) left

-- what files show of the calls so far: their faults, and their openings
pub record Calls : Type 0 where
  pub faults : ℕ
  pub opened : Option (List Opened)

abbrev pub calls_of : {F : Type 0} → files.Ghosts F → F → Calls
calls_of of_files now = record { faults = of_files.faults now; opened = of_files.opened now }

-- What a call that reads an input does to the files, and to what counts its octets: their faults never fall, no file is
-- opened, and of files that tell their octets nothing changes but the slot. `Took` says what the slot gave.
module _ (told : Bool) (calls calls' : Calls) (left left' : ℕ → List ℕ) (holds holds' : List ℕ → Option (List ℕ)) where
  pub record Passes (Took : Type 0) (old new : Counted) : Type 0 where
    pub later : calls.faults ≤ calls'.faults
    pub slot : new.slot ≡ old.slot
    pub limit : new.limit ≡ old.limit
    pub others : IsTrue told → LeavesOthers old.slot left left' holds holds'
    pub took : IsTrue told → Took
    pub opened : calls'.opened ≡ calls.opened

  -- none past the limit, whatever is answered
  abbrev pub PassesOn : (old new : Counted) → Type 0
  PassesOn old new = Passes (Passed old.limit old.taken new.taken (left old.slot) (left' old.slot)) old new

-- so of files before and behind a call, where octets may have been put back
abbrev pub PassesIn : {F : Type 0} → files.Ghosts F → (old new : F) → (before now : Counted) → Type 0
PassesIn of_files old new before now =
    Passes of_files.tells (calls_of of_files old) (calls_of of_files new) (of_files.left old) (of_files.left new)
    (of_files.holds old) (of_files.holds new)
    (Draws before now (of_files.left old before.slot) (of_files.left new before.slot)) before now
