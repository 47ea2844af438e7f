-- Turns of a gate in memory, as they are noted.
use Rattle.std.specs.Prelude.{List, [], ◌∷◌, ◌++◌, ◌≡◌, map, string_bytes}
use Rattle.fs_outside.specs.Gate.{Turn, came, content_from, dialled, read, said, shut, what_from}
use Rattle.fs_outside.specs.declared.turns.NotedTurn.{NotedTurn, TheVariants.{Came, Read, Dialled, Said, Shut}}

abbrev pub turn_of : NotedTurn → Turn
turn_of (Came event octets) = came event.moment event.time (what_from event.came octets.items)
turn_of (Read reading name octets) = read reading.moment reading.time (string_bytes name) (content_from reading.found octets.items)
turn_of (Dialled line address) = dialled line (string_bytes address)
turn_of (Said line octets) = said line octets.items
turn_of (Shut line) = shut line

-- one turn more was noted
abbrev pub Adds : List NotedTurn → List NotedTurn → Turn → Type 0
Adds before now turn = map turn_of now ≡ map turn_of before ++ turn ∷ []
