-- Openings of files in memory, as they are noted.
use Rattle.std.specs.Prelude.{string_bytes}
use Rattle.fs_outside.specs.{Files.{Opened}, declared.openings.NotedOpening.{NotedOpening}}

abbrev pub opening_of : NotedOpening → Opened
opening_of noted = record { slot = noted.slot; name = string_bytes noted.name }
