-- What a call that reads a chain of fields does to the files and to the slot that it reads.
use Rattle.std.specs.Prelude.{ℕ, List, ◌++◌, Option, Some, None, Result, Ok, Err, Bool, true, false, IsTrue, IfErr, ◌≡◌, ◌≢◌, ◌≤◌, ◌<◌, ◌+◌, ◌==◌}
use Rattle.std.specs.Prelude.{◌⊎◌, length, drop, if◌then◌else◌, ⊤}
pub use Rattle.fs_base.specs.Draws.{Calls, Passes, PassesIn, PassesOn, calls_of}
use Rattle.fs_base.specs.{Outside.{Rose}, Parts.{at_limit, window}, declared.counted.Counted.{Counted}}
use Rattle.fs_base.specs.declared.Files as files
use Rattle.fs_input.specs.{Records.{End, bad, limited}, declared.fault.Fault.{Fault, TheVariants.{Read, Limit, Bad}}}
use Rattle.fs_input.specs.Scan.{Scan, Scanner, field, got, partial, wrong}

module _ {A R : Type 0} where
  -- a scan gave this value, and its octets were taken
  pub record Took (scan : Scan A R) (judged taken taken' : ℕ) (left left' : List ℕ) (value : A) : Type 0 where
    pub count : ℕ
    pub is : scan ≡ got value count
    pub within : count ≤ judged
    pub taken_is : taken' ≡ taken + count
    pub left_is : left' ≡ drop count left

  -- how an input ends, of which so many octets are judged behind those that were taken, where a scan gives no value
  abbrev pub end_of : R → Bool → (taken size : ℕ) → Scan A R → Option (End R)
  end_of cut limit taken size (got value count) = None
  end_of cut limit taken size (wrong reason place) = Some (bad reason place)
  end_of cut limit taken size partial = Some (if limit then limited else bad cut (taken + size))

  abbrev pub ends_by : Scanner A R → R → (limit taken : ℕ) → List ℕ → Option (End R)
  ends_by scanner cut limit taken left =
      end_of cut (at_limit limit taken left) taken (length (window limit taken left)) (scanner taken (window limit taken left))

-- a fault is how the input ends
abbrev pub Fails : {R : Type 0} → Option (End R) → Fault R → Type 0
Fails end Read = ⊤
Fails end Limit = end ≡ Some limited
Fails end (Bad reason place) = end ≡ Some (bad reason place)

-- The answer is what the chain says of the octets that are judged; `tells` says what an answer tells of its value.
abbrev pub Scanned : {T A R : Type 0} → Scanner A R → R → (limit taken taken' : ℕ) → (left left' : List ℕ) → (T → A)
    → Result T (Fault R) → Type 0
Scanned scanner cut limit taken taken' left left' tells (Ok answer) =
    Took (scanner taken (window limit taken left)) (length (window limit taken left)) taken taken' left left' (tells answer)
Scanned scanner cut limit taken taken' left left' tells (Err fault) = Fails (ends_by scanner cut limit taken left) fault

-- what is left of an input, where octets of it were put back
abbrev pub ahead : Counted → (ℕ → List ℕ) → ℕ → List ℕ
ahead counted left slot = if slot == counted.slot then counted.back ++ left slot else left slot

-- a moment of a run: what files show, and what was counted of the input that is read
pub record Moment : Type 0 where
  pub calls : Calls
  pub left : ℕ → List ℕ
  pub holds : List ℕ → Option (List ℕ)
  pub counted : Counted

abbrev pub moment : {F : Type 0} → files.Ghosts F → F → Counted → Moment
moment of_files now counted =
    record { calls = calls_of of_files now; left = of_files.left now; holds = of_files.holds now; counted = counted }

-- octets that were put back are left
abbrev pub again : Moment → Moment
again now = record { calls = now.calls; left = ahead now.counted now.left; holds = now.holds; counted = now.counted }

-- what a call does to the files that reads an input between two moments
abbrev pub PassesTo : Bool → (old new : Moment) → Type 0
PassesTo told old new = PassesOn told old.calls new.calls old.left new.left old.holds new.holds old.counted new.counted

-- and what it says: the octets are those of the chain. The faults rose where `Read` is answered.
pub record Reads {T A R : Type 0} (told : Bool) (old new : Moment) (scanner : Scanner A R) (cut : R) (tells : T → A)
    (result : Result T (Fault R)) : Type 0 where
  pub passes : PassesTo told old new
  pub failed : IfErr result (λ fault. fault ≡ Read → Rose old.calls.faults new.calls.faults)
  pub scanned :
      IsTrue told
      → Scanned scanner cut old.counted.limit old.counted.taken new.counted.taken (old.left old.counted.slot)
      (new.left old.counted.slot) tells result

-- so of files before and behind a call; in a clause: `Scans F.Files files.old files.new ..`
abbrev pub Scans : {F T A R : Type 0} → files.Ghosts F → (old new : F) → Scanner A R → R → (before now : Counted)
    → (T → A) → Result T (Fault R) → Type 0
Scans of_files old new scanner cut before now tells result =
    Reads of_files.tells (moment of_files old before) (moment of_files new now) scanner cut tells result

-- and where octets of the input were put back
abbrev pub ScansAgain : {F T A R : Type 0} → files.Ghosts F → (old new : F) → Scanner A R → R → (before now : Counted)
    → (T → A) → Result T (Fault R) → Type 0
ScansAgain of_files old new scanner cut before now tells result =
    Reads of_files.tells (again (moment of_files old before)) (again (moment of_files new now)) scanner cut tells result

-- the input ended below the limit, and nothing of it is left
pub record IsOver (limit taken : ℕ) (left : List ℕ) : Type 0 where
  pub below : at_limit limit taken left ≡ false
  pub none : length (window limit taken left) ≡ 0

-- something is left, or the limit was reached
abbrev pub HasMore : (limit taken : ℕ) → List ℕ → Type 0
HasMore limit taken left = (at_limit limit taken left ≡ true) ⊎ (0 < length (window limit taken left))

abbrev pub whole : List ℕ → List ℕ
whole octets = octets

-- The octets of a part's first field were taken; or the input ended before the part; or it ends within this field.
abbrev pub Started : {R : Type 0} → (size : ℕ) → R → (limit taken taken' : ℕ) → (left left' into : List ℕ)
    → Result Bool (Fault R) → Type 0
Started {R} size cut limit taken taken' left left' into (Ok true) =
    Took (field {A = List ℕ} {R = R} size whole taken (window limit taken left)) (length (window limit taken left)) taken taken' left left' into
Started size cut limit taken taken' left left' into (Ok false) = IsOver limit taken left
Started size cut limit taken taken' left left' into (Err fault) =
    Fails (ends_by (field size whole) cut limit taken left) fault × (fault ≢ Read → HasMore limit taken left)

-- a call that begins a part
pub record Starts {R : Type 0} (told : Bool) (old new : Moment) (size : ℕ) (cut : R) (into : List ℕ) (result : Result Bool (Fault R)) : Type 0 where
  pub passes : PassesTo told old new
  pub failed : IfErr result (λ fault. fault ≡ Read → Rose old.calls.faults new.calls.faults)
  pub started :
      IsTrue told
      → Started size cut old.counted.limit old.counted.taken new.counted.taken (old.left old.counted.slot)
      (new.left old.counted.slot) into result

-- so of files before and behind a call, where octets may have been put back; in a clause:
-- `StartsIn F.Files files.old files.new ..`
abbrev pub StartsIn : {F R : Type 0} → files.Ghosts F → (old new : F) → (size : ℕ) → R → (before now : Counted)
    → (into : List ℕ) → Result Bool (Fault R) → Type 0
StartsIn of_files old new size cut before now into result =
    Starts of_files.tells (again (moment of_files old before)) (again (moment of_files new now)) size cut into result
