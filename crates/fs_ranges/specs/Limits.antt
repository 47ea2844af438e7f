-- What a limit of a field allows.
use Rattle.std.specs.Prelude.{ℕ, Bool, ◌||◌, true}
use Rattle.fs_ranges.specs.declared.field.Field.TheVariants.{DestinationPort, SourcePort}
use Rattle.fs_ranges.specs.{declared.limits.Limit.{Limit, TheVariants.{Any, Range, Ranges}}, Facts.{Facts, number_of}, Spans.{contains, is_in}}

-- the number is one of these
abbrev pub allows : Limit → ℕ → Bool
allows Any number = true
allows (Range low high) number = is_in number (low, high)
allows (Ranges ranges) number = contains ranges.now number

-- either port is one of these
abbrev pub allows_port : Limit → Facts → Bool
allows_port limit facts = allows limit (number_of facts SourcePort) || allows limit (number_of facts DestinationPort)
