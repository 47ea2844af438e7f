-- Inputs that are lists of records, as tapes and captures are. Each record has a head, which tells the size of the
-- payload behind it. What a head says may depend on the records before it.
use Rattle.std.specs.Prelude.{ℕ, List, Option, Some, None, Bool, ◌+◌, ◌==◌, length, take, drop, nat_le, if◌then◌else◌}
use Rattle.fs_base.specs.declared.counted.Counted.{Counted}
use Rattle.fs_input.specs.{Parts.{At, Reader, at, to_come}, declared.head.Head.{Head, TheVariants.{Whole, Wrong, Partial}}}

-- How an input ends: behind its last record, at the limit, or by a fault and its place.
pub data End (R : Type 0) : Type 0 where
  done : End R
  limited : End R
  bad : R → ℕ → End R

-- A format: how many octets a head has, what they say, the item that a head and its payload are, the state that a
-- record leaves, and the fault of an input that ends within a record.
pub record Format (S A B R : Type 0) : Type 0 where
  pub head_size : S → ℕ
  pub head_of : S → List ℕ → Head A R
  pub item_of : A → List ℕ → B
  pub behind : S → A → S
  pub cut : R

abbrev pub record_in : {S A B R : Type 0} → Format S A B R → S → Head A R → List ℕ → Option (B × At S)
record_in format state (Whole said size) octets =
    if nat_le (format.head_size state + size) (length octets)
    then Some (
      format.item_of said (take size (drop (format.head_size state) octets)),
      at (format.behind state said) (drop (format.head_size state + size) octets),
    )
    else None
record_in format state (Wrong reason offset) octets = None
record_in format state Partial octets = None

-- what the octets of the head say
abbrev pub head_at : {S A B R : Type 0} → Format S A B R → At S → Head A R
head_at format now = format.head_of now.state (take (format.head_size now.state) now.octets)

-- the record that stands whole here, and where the reader stands behind it
abbrev pub first_record : {S A B R : Type 0} → Format S A B R → Reader S B
first_record format now = record_in format now.state (head_at format now) now.octets

-- where the octets end before a record is whole
abbrev pub ends_short : {R : Type 0} → R → Bool → ℕ → ℕ → End R
ends_short cut limit place size = if limit then limited else if size == 0 then done else bad cut (place + size)

-- How the input ends where no record stands whole: by the first field that stands whole and is wrong; else by the limit,
-- where it was reached; else it is done where nothing is left, and cut where something is.
abbrev pub end_by : {A R : Type 0} → R → Bool → ℕ → ℕ → Head A R → End R
end_by cut limit place size (Whole said payload) = ends_short cut limit place size
end_by cut limit place size (Wrong reason offset) = bad reason (place + offset)
end_by cut limit place size Partial = ends_short cut limit place size

abbrev pub stop : {S A B R : Type 0} → Format S A B R → Bool → ℕ → At S → End R
stop format limit place now = end_by format.cut limit place (length now.octets) (head_at format now)

-- the records that are still to come, and how the input ends, where so many octets of it were taken
abbrev pub records_to_come : {S A B R : Type 0} → Format S A B R → ℕ → ℕ → S → List ℕ → List B × End R
records_to_come format limit taken state left =
    to_come (first_record format) (stop format) limit taken (at state left)

-- the same of an input of which so much was taken, where this is left in its slot
abbrev pub records_ahead : {S A B R : Type 0} → Format S A B R → Counted → S → List ℕ → List B × End R
records_ahead format counted state left = records_to_come format counted.limit counted.taken state left
