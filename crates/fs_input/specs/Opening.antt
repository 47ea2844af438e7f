-- What stands before the records of an input: so many octets, judged field by field as they are filled.
use Rattle.std.specs.Prelude.{ℕ, List, [], Result, Ok, Err, Bool, ◌≡◌, ◌<◌, ◌≤◌, length, take, nat_le, if◌then◌else◌, ⊤}
use Rattle.fs_input.specs.{NextRecord.{short_fault}, Records.{End, limited, bad}}
use Rattle.fs_input.specs.declared.{fault.Fault.{Fault, TheVariants.{Read, Limit, Bad}}, head.Head.{Head, TheVariants.{Whole, Wrong, Partial}}}

-- what so many octets open, or how the input ends before its records
abbrev pub opened_by : {V R : Type 0} → R → Bool → ℕ → Head V R → Result V (End R)
opened_by cut limit size (Whole said none) = Ok said
opened_by cut limit size (Wrong reason place) = Err (bad reason place)
opened_by cut limit size Partial = Err (if limit then limited else bad cut size)

-- What an input of this content opens. Only its first `limit` octets are judged.
abbrev pub opening : {V R : Type 0} → ℕ → (List ℕ → Head V R) → R → ℕ → List ℕ → Result V (End R)
opening size front_of cut limit content =
    let front = take size (take limit content) in
    opened_by cut (nat_le limit (length content)) (length front) (front_of front)

-- An opened input shows what was opened, and has left what stands behind it. A fault is what ends it before its records.
abbrev pub Opens : {T V R : Type 0} → (T → V) → Result V (End R) → (behind left : List ℕ) → Result T (Fault R) → Type 0
Opens view opened behind left (Ok input) = (opened ≡ Ok (view input)) × (left ≡ behind)
Opens view opened behind left (Err Read) = ⊤
Opens view opened behind left (Err Limit) = opened ≡ Err limited
Opens view opened behind left (Err (Bad reason place)) = opened ≡ Err (bad reason place)

-- An opened input is still to give all parts. A fault is what ends it before them.
abbrev pub Begins : {T P R : Type 0} → List P × End R → (T → List P × End R) → Result T (Fault R) → Type 0
Begins all coming (Ok input) = all ≡ coming input
Begins all coming (Err Read) = ⊤
Begins all coming (Err Limit) = all ≡ ([], limited)
Begins all coming (Err (Bad reason place)) = all ≡ ([], bad reason place)

-- what is answered where the octets before the records say this, and so many were taken
abbrev pub opened_answer : {V R : Type 0} → R → (taken limit : ℕ) → Head V R → Result V (Fault R)
opened_answer cut taken limit (Whole said none) = Ok said
opened_answer cut taken limit (Wrong reason place) = Err (Bad reason place)
opened_answer cut taken limit Partial = Err (short_fault cut taken limit)

-- A whole front has all its octets, and one of which octets are missing hasn't.
abbrev pub IsFrontWithin : {V R : Type 0} → (size count : ℕ) → Head V R → Type 0
IsFrontWithin size count (Whole said none) = size ≤ count
IsFrontWithin size count (Wrong reason place) = ⊤
IsFrontWithin size count Partial = count < size
