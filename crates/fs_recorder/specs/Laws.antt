-- What is told of the tape of a recorder, whatever happens.
use Rattle.std.specs.{Prelude.{ℕ, List, [], ◌∷◌, ◌++◌, Bool, true, false, not, ◌==◌, ◌≡◌, ◌<◌, ◌≤◌, ◌^◌, ⊤, filter, length}, List.{AllByRecursion, list_any}}
use Rattle.fs_base.specs.{Gate.{What, ended, gave, made, nothing, taken}, Language.{IsOctets}, declared.config.{Config.{Config}, Peer.{Peer}}}
use Rattle.fs_input.specs.{Parts.{AllFrom}, Records.{done}}
use Rattle.fs_tape.specs.{Header.{longest_payload}, Laws.{tape_text}, Tape.{Item, came_up, received, tape_of, was_lost}}
use Rattle.fs_tape.specs.declared.magic.Version.TheVariants.{Two}
use Rattle.fs_desk.specs.Desk.{Desked, Played, standing_at_desk}
use Rattle.fs_recorder.specs.{Deeds.{Recording}, Steps.{Happening, at_first, recorded, stands_from}, Tapes.{items_in}, Works.{Stands}}

-- a record has room for the number of each configured peer
abbrev pub AreNumbered : Config → Type 0
AreNumbered config = AllByRecursion (λ (peer : Peer). peer.number < 65536) config.peers

-- a record has room for a piece that came
abbrev pub IsShort : What → Type 0
IsShort (taken line from) = ⊤
IsShort (gave line piece) = length piece ≤ longest_payload
IsShort (ended line) = ⊤
IsShort (made line) = ⊤
IsShort nothing = ⊤

-- and for its moment
pub record IsRecordable (event : Happening) : Type 0 where
  pub room : event.moment < 2 ^ 64
  pub short : IsShort event.what

-- Whatever happens, the tape of it, shorter than the limit, gives exactly what was told, and is done.
abbrev pub ReadsBackRecorded : Type 0
ReadsBackRecorded =
    (config : Config) (limit : ℕ) (events : List Happening) → AreNumbered config → AllByRecursion IsRecordable events
    → IsOctets (tape_text Two (recorded config events)) → length (tape_text Two (recorded config events)) < limit
    → tape_of config limit (tape_text Two (recorded config events)) ≡ (recorded config events, done)

-- A desk that plays the tape so far holds the routes that the recorder's desk holds, and stands as it does with every peer.
abbrev pub Replays : Type 0
Replays =
    (config : Config) (events : List Happening) (recording : Recording) (desk : Desked) → AreNumbered config
    → AllByRecursion IsRecordable events → Stands (stands_from config at_first events).station recording → recording.books.desk.config ≡ config
    → Played config (items_in (recorded config events)) desk
    → (desk.held ≡ recording.books.desk.held)
    × ((number : ℕ) → standing_at_desk desk number ≡ standing_at_desk recording.books.desk number)

-- whether a number is among these
abbrev pub is_in : ℕ → List ℕ → Bool
is_in number numbers = list_any (λ (other : ℕ). other == number) numbers

-- which peers are up behind an item
abbrev pub up_after : List ℕ → Item → List ℕ
up_after up (came_up peer) = up ++ peer ∷ []
up_after up (received peer octets) = up
up_after up (was_lost peer) = filter (λ (other : ℕ). not (other == peer)) up

-- A peer comes up that isn't up; one that is up sends octets, or is lost.
abbrev pub ComesInTurn : List ℕ → Item → Type 0
ComesInTurn up (came_up peer) = is_in peer up ≡ false
ComesInTurn up (received peer octets) = is_in peer up ≡ true
ComesInTurn up (was_lost peer) = is_in peer up ≡ true

-- which lines were taken before and at an event
abbrev pub lines_with : List ℕ → What → List ℕ
lines_with lines (taken line from) = line ∷ lines
lines_with lines (gave line piece) = lines
lines_with lines (ended line) = lines
lines_with lines (made line) = lines
lines_with lines nothing = lines

abbrev pub lines_after : List ℕ → Happening → List ℕ
lines_after lines event = lines_with lines event.what

-- a line that is taken never was before
abbrev pub IsNewLine : List ℕ → What → Type 0
IsNewLine lines (taken line from) = is_in line lines ≡ false
IsNewLine lines (gave line piece) = ⊤
IsNewLine lines (ended line) = ⊤
IsNewLine lines (made line) = ⊤
IsNewLine lines nothing = ⊤

abbrev pub IsNew : List ℕ → Happening → Type 0
IsNew lines event = IsNewLine lines event.what

-- Of each peer it is told that it came up, what it sent, and that it was lost, again and again.
abbrev pub Alternates : Type 0
Alternates =
    (config : Config) (events : List Happening) → AllFrom IsNew lines_after [] events
    → AllFrom ComesInTurn up_after [] (items_in (recorded config events))
