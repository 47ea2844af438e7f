-- A tape of the second version that is written as things happen.
use Rattle.std.specs.Prelude.{ℕ, List, [], ◌∷◌, ◌+◌, max, map}
use Rattle.fs_tape.specs.Tape.{Item, Timed}
use Rattle.fs_recorder.specs.declared.scribe.Kind.{Kind, TheVariants.{Up, Received, Lost}}

-- the octet that tells a record's kind
abbrev pub code_of : Kind → ℕ
code_of Up = 1
code_of Received = 2
code_of Lost = 3

-- Where a tape stands: the moment of its next record, how many octets it has, and how many are too many.
pub record Scribed : Type 0 where
  pub moment : ℕ
  pub written : ℕ
  pub limit : ℕ

-- a tape that has its magic alone
abbrev pub begun : ℕ → Scribed
begun limit = record { moment = 0; written = 8; limit = limit }

-- the clock on the wall says this moment: one that is below an earlier one counts as that
abbrev pub passed : ℕ → Scribed → Scribed
passed moment scribe = record scribe { moment = max scribe.moment moment }

-- so many octets were written
abbrev pub longer_by : ℕ → Scribed → Scribed
longer_by count scribe = record scribe { written = scribe.written + count }

-- what is told, without its moments
abbrev pub items_in : List Timed → List Item
items_in told = map (λ (one : Timed). one.item) told

-- the moment of the last of them, or that before the first
abbrev pub last_of : ℕ → List Timed → ℕ
last_of moment [] = moment
last_of moment (one ∷ later) = last_of one.moment later
