-- What wires in memory show.
use Rattle.std.specs.Prelude.{ℕ, List, [], Option, Some, None, Bool, false, ◌+◌, ◌||◌, ◌==◌, not, nat_lt, min, length, if◌then◌else◌}
use Rattle.fs_outside.specs.{Tallies.{Tallied, fails, tallied}, Wire.{WireEnd, WireEnds, end_at}, Cabled.{end_of}}
use Rattle.fs_outside.specs.declared.{cable.Cable.{Cable}, memory_wires.{MemWire.{MemWire}, CalmWire.{CalmWire}}}

abbrev pub ends_of : Cable → WireEnds
ends_of cable = record { first = end_of cable.first cable.second.written.octets.items; second = end_of cable.second cable.first.written.octets.items }

-- through each end so many octets can be written
abbrev pub room_of : Cable → ℕ
room_of cable = cable.first.written.room

-- an end that isn't open: it is to receive these octets, and has none of them left yet
abbrev pub fresh_end : List ℕ → WireEnd → WireEnd
fresh_end octets end = record { to_receive = octets; left = []; written = end.written; joined = false }

abbrev pub with_end : ℕ → (WireEnd → WireEnd) → WireEnds → WireEnds
with_end place change ends =
    if place == 0 then record { first = change ends.first; second = ends.second } else record { first = ends.first; second = change ends.second }

-- both ends as they are before anything happened
abbrev pub new_ends : WireEnds
new_ends =
    let end : WireEnd = record { to_receive = []; left = []; written = []; joined = false } in
    record { first = end; second = end }

-- so many octets more can't be written through the end: they would go past the room
abbrev pub passes : ℕ → WireEnds → ℕ → ℕ → Bool
passes room ends place count = nat_lt room (length (end_at place ends).written + count)

abbrev pub mem_wire_ends : MemWire → WireEnds
mem_wire_ends wire = ends_of wire.cable

abbrev pub mem_wire_room : MemWire → ℕ
mem_wire_room wire = room_of wire.cable

abbrev pub mem_wire_tally : MemWire → Tallied
mem_wire_tally wire = tallied wire.tally

-- the write that fails: its number is listed, or what it would take goes past the room
abbrev pub mem_wire_refuses : MemWire → ℕ → List ℕ → Bool
mem_wire_refuses wire place piece =
    fails (tallied wire.tally) || passes (room_of wire.cable) (ends_of wire.cable) place (min (length piece) wire.tally.most)

abbrev pub calm_wire_ends : CalmWire → Option WireEnds
calm_wire_ends wire = if wire.tells then Some (ends_of wire.cable) else None

abbrev pub calm_wire_room : CalmWire → ℕ
calm_wire_room wire = room_of wire.cable

-- whether the wire tells after a write: it told, and the room wasn't passed
abbrev pub calm_wire_tells : ℕ → Option WireEnds → ℕ → List ℕ → Bool
calm_wire_tells room told place piece =
    elim told [ None ↦ false | Some ends ↦ not (passes room ends place (length piece)) ]
