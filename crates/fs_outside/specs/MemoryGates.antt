-- What gates in memory show.
use Rattle.std.specs.Prelude.{ℕ, List, ◌∷◌, Option, Result, Bool, ◌≡◌, ◌||◌, not, if◌then◌else◌, MatchResult}
use Rattle.fs_outside.specs.Gate.{IsCounted, Turn, content_from, unread, what_from}
use Rattle.fs_outside.specs.Scripts.{Scripted, comes, coming, content_within, held_now, read_once}
use Rattle.fs_outside.specs.Tallies.{OneMore, Tallied, fails, tallied}
use Rattle.fs_outside.specs.declared.{gate.{Event.{Event}, Reading.{Reading}}, mem_gate.MemGate.{MemGate}, calm_gate.CalmGate.{CalmGate}}

-- what is to come
abbrev pub mem_gate_script : MemGate → Scripted
mem_gate_script gate = gate.script

abbrev pub mem_gate_turns : MemGate → Option (List Turn)
mem_gate_turns gate = gate.turns

abbrev pub mem_gate_tally : MemGate → Tallied
mem_gate_tally gate = tallied gate.tally

-- the call for an event that fails: its number is listed, or no event is to come that fits
abbrev pub mem_gate_refuses : MemGate → ℕ → Bool
mem_gate_refuses gate room = fails (tallied gate.tally) || not (comes room gate.script.events)

-- The event that is to come was answered, and is the last one now; or nothing came.
abbrev pub FindsNext : {E : Type 0} → Result Event E → List ℕ → Scripted → Scripted → Type 0
FindsNext result into before now =
    MatchResult result
    (λ event. (before.events ≡ coming event.moment event.time (what_from event.came into) ∷ now.events)
    × (now ≡ record before { events = now.events; moment = event.moment; time = event.time }))
    (λ _. now ≡ before)

-- one call more, and a fault exactly where it is listed
pub record CountsReading {E : Type 0} (before now : Tallied) (result : Result Reading E) : Type 0 where
  pub cause : IsCounted before.faults now.faults result
  pub counted : OneMore before now

-- A reading found what the file holds, at the moment and the time of the last event, or failed where it is listed. Where
-- the machine refused memory nothing was read.
abbrev pub FindsReading : {E : Type 0} → Bool → Result Reading E → ℕ → List ℕ → Scripted → Scripted → Type 0
FindsReading fails result limit octets before now =
    MatchResult result
    (λ reading. (content_from reading.found octets ≡ (if fails then unread else content_within limit (held_now before.contents)))
    × (reading.moment ≡ before.moment)
    × (reading.time ≡ before.time)
    × (now ≡ (if fails then before else read_once before)))
    (λ _. now ≡ before)

abbrev pub calm_gate_faults : CalmGate → ℕ
calm_gate_faults gate = gate.faults
