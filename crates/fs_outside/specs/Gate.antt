-- What came at a gate, what was read again, and what was asked of it.
use Rattle.std.specs.Prelude.{ℕ, List, [], ◌∷◌, ◌<◌, ◌≤◌, ◌≡◌, ⊤, take, length, Option, Result, MatchResult, IfOk}
use Rattle.fs_outside.specs.{Outside.{Rose}, Sink.{Grew}}
use Rattle.fs_outside.specs.declared.address.Address.{Address}
use Rattle.fs_outside.specs.declared.gate.Came.{Came, TheVariants.{Taken, Made, Octets, Ended, Nothing}}
use Rattle.fs_outside.specs.declared.gate.Event.{Event}
use Rattle.fs_outside.specs.declared.gate.Found.{Found, TheVariants.{Whole, Absent, Failed, TooLong}}
use Rattle.fs_outside.specs.declared.gate.Reading.{Reading}

-- What came: a connection was taken, one that was dialled is made, one gave octets, or has ended; or nothing, for as long
-- as the gate waits.
pub data What : Type 0 where
  taken : ℕ → Address → What
  made : ℕ → What
  gave : ℕ → List ℕ → What
  ended : ℕ → What
  nothing : What

-- What a file was found to hold: these octets, fewer than the limit; or it wasn't there, couldn't be read, or was longer.
pub data Content : Type 0 where
  whole : List ℕ → Content
  absent : Content
  unread : Content
  too_long : Content

-- A turn: what came, at a moment of the clock on the wall and at a time of the steady one; a file that was read, at such a
-- moment and time; a connection that was begun to an address; octets that were to be sent through one; one that was closed.
pub data Turn : Type 0 where
  came : (moment time : ℕ) → What → Turn
  read : (moment time : ℕ) → (name : List ℕ) → Content → Turn
  dialled : (line : ℕ) → (address : List ℕ) → Turn
  said : (line : ℕ) → List ℕ → Turn
  shut : (line : ℕ) → Turn

-- the octets of an event stand at the front of the buffer
abbrev pub what_from : Came → List ℕ → What
what_from (Taken line from) into = taken line from
what_from (Made line) into = made line
what_from (Octets line count) into = gave line (take count into)
what_from (Ended line) into = ended line
what_from Nothing into = nothing

-- they are at least one, and have room there
abbrev pub FitsIn : Came → List ℕ → Type 0
FitsIn (Octets line count) into = (0 < count) × (count ≤ length into)
FitsIn (Taken line from) into = ⊤
FitsIn (Made line) into = ⊤
FitsIn (Ended line) into = ⊤
FitsIn Nothing into = ⊤

-- a connection was taken
abbrev pub IsTaken : Came → Type 0
IsTaken (Taken line from) = ⊤
IsTaken (Made line) = ⊥
IsTaken (Octets line count) = ⊥
IsTaken (Ended line) = ⊥
IsTaken Nothing = ⊥

-- one event more, where one was answered
abbrev pub Tells : {E : Type 0} → Result Event E → List ℕ → Option (List Turn) → Option (List Turn) → Type 0
Tells result into before now =
    MatchResult result
    (λ event. Grew before now (came event.moment event.time (what_from event.came into) ∷ []))
    (λ _. Grew before now [])

-- the octets of a file that was read whole
abbrev pub content_from : Found → List ℕ → Content
content_from Whole octets = whole octets
content_from Absent octets = absent
content_from Failed octets = unread
content_from TooLong octets = too_long

abbrev pub HasFound : Found → ℕ → List ℕ → Type 0
HasFound Whole limit octets = length octets < limit
HasFound Absent limit octets = octets ≡ []
HasFound Failed limit octets = octets ≡ []
HasFound TooLong limit octets = octets ≡ []

-- one reading more, where one was answered
abbrev pub Rereads : {E : Type 0} → Result Reading E → List ℕ → List ℕ → Option (List Turn) → Option (List Turn) → Type 0
Rereads result name octets before now =
    MatchResult result
    (λ reading. Grew before now (read reading.moment reading.time name (content_from reading.found octets) ∷ []))
    (λ _. Grew before now [])

-- a reading fails only where the count of faults rose in it, and the count never falls
pub record IsCounted {E : Type 0} (before now : ℕ) (result : Result Reading E) : Type 0 where
  pub later : before ≤ now
  pub failed : IfOk result (λ reading. reading.found ≡ Failed → Rose before now)

-- what was read is shorter than the limit, and nothing is handed over where no octets were
abbrev pub HandsOver : {E : Type 0} → Result Reading E → ℕ → List ℕ → Type 0
HandsOver result limit octets = MatchResult result (λ reading. HasFound reading.found limit octets) (λ _. octets ≡ [])

abbrev pub HandsOverFound : {E : Type 0} → Result Found E → ℕ → List ℕ → Type 0
HandsOverFound result limit octets = MatchResult result (λ found. HasFound found limit octets) (λ _. octets ≡ [])
