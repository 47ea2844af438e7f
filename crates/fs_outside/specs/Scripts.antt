-- What is to come at a gate in memory.
use Rattle.std.specs.Prelude.{ℕ, List, [], ◌∷◌, ◌++◌, Option, Some, None, Result, Bool, true, false, ◌≡◌, ◌+◌, ◌-◌, ◌^◌, ◌&&◌, nat_lt, nat_le, min}
use Rattle.std.specs.Prelude.{if◌then◌else◌, length, MatchOption, MatchResult}
use Rattle.fs_outside.specs.Gate.{Content, HasFound, What, absent, content_from, ended, gave, made, nothing, taken, too_long, whole, what_from}
use Rattle.fs_outside.specs.declared.gate.{Event.{Event}, Found.{Found}, Reading.{Reading}}
use Rattle.fs_outside.specs.declared.script.Cue.{Cue, TheVariants.{Taken, Made, Octets as Gives_octets, Ended, Nothing}}
use Rattle.fs_outside.specs.declared.script.{Held.{Held, TheVariants.{Octets, Absent}}, TimedCue.{TimedCue}}

abbrev pub what_of : Cue → What
what_of (Taken line from) = taken line from
what_of (Made line) = made line
what_of (Gives_octets line octets) = gave line octets.items
what_of (Ended line) = ended line
what_of Nothing = nothing

abbrev pub held_of : Held → Option (List ℕ)
held_of (Octets octets) = Some octets.items
held_of Absent = None

-- an event that is to come, at a moment of the clock on the wall and at a time of the steady one
pub record Coming : Type 0 where
  pub moment : ℕ
  pub time : ℕ
  pub what : What

abbrev pub coming : (moment time : ℕ) → What → Coming
coming moment time what = record { moment = moment; time = time; what = what }

abbrev pub coming_of : TimedCue → Coming
coming_of cue = coming cue.moment cue.time (what_of cue.cue)

-- The events that are still to come; what the file holds at the next readings, of which the last one stays; the moment and
-- the time of the last event; and how many connections were dialled.
pub record Scripted : Type 0 where
  pub events : List Coming
  pub contents : List (Option (List ℕ))
  pub moment : ℕ
  pub time : ℕ
  pub dialled : ℕ

-- nothing is to come, and the file isn't there
abbrev pub new_script : Scripted
new_script = record { events = []; contents = []; moment = 0; time = 0; dialled = 0 }

-- one event more is to come, or nothing changed
abbrev pub AddsEvent : {T E : Type 0} → Result T E → Coming → Scripted → Scripted → Type 0
AddsEvent result event before now =
    MatchResult result (λ _. now ≡ record before { events = before.events ++ event ∷ [] }) (λ _. now ≡ before)

-- what the file holds at one reading more, or nothing changed
abbrev pub AddsContent : {T E : Type 0} → Result T E → Option (List ℕ) → Scripted → Scripted → Type 0
AddsContent result held before now =
    MatchResult result (λ _. now ≡ record before { contents = before.contents ++ held ∷ [] }) (λ _. now ≡ before)

-- octets come where they are some, and have room
abbrev pub fits_in : What → ℕ → Bool
fits_in (gave line octets) room = nat_lt 0 (length octets) && nat_le (length octets) room
fits_in (taken line from) room = true
fits_in (made line) room = true
fits_in (ended line) room = true
fits_in nothing room = true

-- there is an event to come, and it fits
abbrev pub comes : ℕ → List Coming → Bool
comes room [] = false
comes room (event ∷ later) = fits_in event.what room

-- The event that is to come was given, and is the last one now; or none was.
abbrev pub Gives : Option Event → List ℕ → Scripted → Scripted → Type 0
Gives given into before now =
    MatchOption given
    (now ≡ before)
    (λ event. (before.events ≡ coming event.moment event.time (what_from event.came into) ∷ now.events)
    × (now ≡ record before { events = now.events; moment = event.moment; time = event.time }))

-- what the file holds at the next reading
abbrev pub held_now : List (Option (List ℕ)) → Option (List ℕ)
held_now [] = None
held_now (held ∷ later) = held

-- what it holds at the readings after it: the last one stays
abbrev pub held_later : List (Option (List ℕ)) → List (Option (List ℕ))
held_later [] = []
held_later (held ∷ []) = held ∷ []
held_later (held ∷ next ∷ later) = next ∷ later

-- what a reading finds of it, up to a limit
abbrev pub content_within : ℕ → Option (List ℕ) → Content
content_within limit None = absent
content_within limit (Some octets) = if nat_lt (length octets) limit then whole octets else too_long

-- it was found so, and the octets are handed over where it was read whole
pub record HasContent (found : Found) (limit : ℕ) (octets : List ℕ) (held : Option (List ℕ)) : Type 0 where
  pub content : content_from found octets ≡ content_within limit held
  pub fits : HasFound found limit octets

-- the file was read once more
abbrev pub read_once : Scripted → Scripted
read_once script = record script { contents = held_later script.contents }

abbrev pub GivesReading : {E : Type 0} → Result Found E → ℕ → List ℕ → Scripted → Scripted → Type 0
GivesReading result limit octets before now =
    MatchResult result
    (λ found. HasContent found limit octets (held_now before.contents) × (now ≡ read_once before))
    (λ _. (octets ≡ []) × (now ≡ before))

abbrev pub dialled_once : Scripted → Scripted
dialled_once script = record script { dialled = min (script.dialled + 1) (2 ^ 64 - 1) }

-- a reading at the moment and the time of the last event
abbrev pub reading_at : Scripted → Found → Reading
reading_at script found = record { moment = script.moment; time = script.time; found = found }
