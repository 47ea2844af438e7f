-- What sinks in memory show.
use Rattle.std.specs.Prelude.{ℕ, List, ◌++◌, Option, Some, None, Bool, ◌+◌, ◌||◌, nat_lt, min, length, if◌then◌else◌, option_and_then}
use Rattle.fs_outside.specs.{Tallies.{Tallied, fails, tallied}, declared.memory_sinks.{MemSink.{MemSink}, CalmSink.{CalmSink}}}

abbrev pub mem_sink_text : MemSink → List ℕ
mem_sink_text sink = sink.text.octets.items

abbrev pub mem_sink_room : MemSink → ℕ
mem_sink_room sink = sink.text.room

abbrev pub mem_sink_tally : MemSink → Tallied
mem_sink_tally sink = tallied sink.tally

-- the write that fails: its number is listed, or what it would take goes past the room
abbrev pub mem_sink_refuses : MemSink → List ℕ → Bool
mem_sink_refuses sink piece = fails (tallied sink.tally) || nat_lt sink.text.room (length sink.text.octets.items + min (length piece) sink.tally.most)

abbrev pub calm_sink_written : CalmSink → Option (List ℕ)
calm_sink_written sink = if sink.tells then Some sink.text.octets.items else None

abbrev pub calm_sink_room : CalmSink → ℕ
calm_sink_room sink = sink.text.room

-- what is told behind a write: all, or nothing once the room was passed
abbrev pub calm_sink_after : ℕ → Option (List ℕ) → List ℕ → Option (List ℕ)
calm_sink_after room told piece =
    option_and_then (λ text. if nat_lt room (length text + length piece) then None else Some (text ++ piece)) told
