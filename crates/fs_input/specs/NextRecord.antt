-- What reading the next record answers, and what is to come then.
use Rattle.std.specs.Prelude.{ℕ, List, [], Option, Some, None, IsSome, IfSome, IsTrue, Result, Ok, Err, ◌≡◌, ◌≤◌, ◌<◌, ◌==◌, ◌&&◌, not, if◌then◌else◌}
use Rattle.std.specs.Prelude.{⊤}
use Rattle.std.specs.Result.{IsErrOf}
use Rattle.fs_base.specs.{Files.{OnlySlot}, Outside.{Rose}}
use Rattle.fs_base.specs.declared.Files as files
use Rattle.fs_input.specs.Records.{End, done, limited, bad}
use Rattle.fs_input.specs.declared.fault.{Ended.{Ended, TheVariants.{Done, Stopped}}, Fault.{Fault, TheVariants.{Read, Limit, Bad}}}
use Rattle.fs_input.specs.declared.head.{Found.{Found}, Head.{Head, TheVariants.{Whole, Wrong, Partial}}}

-- A wrong field begins within the octets in hand. A whole head has all its octets, and a payload of no more than `most`.
abbrev pub IsHeadWithin : {A R : Type 0} → (size most count : ℕ) → Head A R → Type 0
IsHeadWithin size most count (Whole said payload) = (size ≤ count) × (payload ≤ most)
IsHeadWithin size most count (Wrong reason offset) = offset < count
IsHeadWithin size most count Partial = count < size

-- what a whole head says is known
abbrev pub IsKnown : {A R : Type 0} → (A → Type 0) → Head A R → Type 0
IsKnown Known (Whole said payload) = Known said
IsKnown Known (Wrong reason offset) = ⊤
IsKnown Known Partial = ⊤

-- what an input that ended answers from then on
abbrev pub answer_of : {T R : Type 0} → Ended R → Result (Option T) (Fault R)
answer_of Done = Ok None
answer_of (Stopped fault) = Err fault

-- how an input stands ended behind an answer
abbrev pub ended_after : {T R : Type 0} → Result (Option T) (Fault R) → Option (Ended R)
ended_after (Ok (Some found)) = None
ended_after (Ok None) = Some Done
ended_after (Err fault) = Some (Stopped fault)

-- What was to come is what stands behind the record that the answer gives; or nothing but the end that it tells.
abbrev pub Advances : {T B R : Type 0} → List B × End R → (T → List B × End R) → Result (Option T) (Fault R) → Type 0
Advances before behind (Ok (Some found)) = before ≡ behind found
Advances before behind (Ok None) = before ≡ ([], done)
Advances before behind (Err Read) = ⊤
Advances before behind (Err Limit) = before ≡ ([], limited)
Advances before behind (Err (Bad reason place)) = before ≡ ([], bad reason place)

-- What is given raises the place, up to the limit at most, and more holds of it.
abbrev pub Grows : {T R : Type 0} → (T → Type 0) → (old new limit : ℕ) → Result (Option T) (Fault R) → Type 0
Grows Holds old new limit (Ok (Some found)) = (old < new) × (new ≤ limit) × Holds found
Grows Holds old new limit _ = ⊤

-- a record's payload has no more than `most` octets, and what its head says is known
abbrev pub IsFoundWithin : {A : Type 0} → (A → Type 0) → (most : ℕ) → Found A → Type 0
IsFoundWithin Known most found = (found.size ≤ most) × Known found.said

-- What a call does that reads the next part of an input in a slot. `before` is what was to come, and `behind` tells what
-- is to come behind a part.
pub record GivesNext {F T B R : Type 0} (of_files : files.Ghosts F) (old new : F) (slot slot' limit limit' : ℕ)
    (end end' : Option (Ended R)) (Stays : Type 0) (before : List B × End R) (behind : T → List B × End R)
    (result : Result (Option T) (Fault R)) : Type 0 where
  -- the faults of the files never fall, and rose where `Read` is answered
  pub later : of_files.faults old ≤ of_files.faults new
  pub read : end ≡ None → IsErrOf result Read → Rose (of_files.faults old) (of_files.faults new)
  pub slot_is : slot' ≡ slot
  pub limit_is : limit' ≡ limit
  -- an input that ended answers the same again, stays as it is, and isn't read
  pub again : IfSome end (λ ended. result ≡ answer_of ended)
  pub stays : IsSome end → Stays
  pub unread : IsSome end → new ≡ old
  pub ended : end' ≡ ended_after result
  pub advances : IsTrue of_files.tells → end ≡ None → Advances before behind result
  -- no file is opened, and of files that tell their octets nothing changes but the slot
  pub opened : of_files.opened new ≡ of_files.opened old
  pub others : OnlySlot of_files.tells of_files.left of_files.holds slot old new

-- the fault of an input of which no octet is left to be taken
abbrev pub short_fault : {R : Type 0} → R → (taken limit : ℕ) → Fault R
short_fault cut taken limit = if taken == limit then Limit else Bad cut taken

-- what an input answers where so many octets of a head were the last to be taken
abbrev pub short_answer : {T R : Type 0} → R → (taken limit count : ℕ) → Result (Option T) (Fault R)
short_answer cut taken limit count =
    if count == 0 && not (taken == limit) then Ok None else Err (short_fault cut taken limit)
