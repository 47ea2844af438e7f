-- The octets between two joined ends.
use Rattle.std.specs.Prelude.{ℕ, ◌+◌, ◌-◌}
use Rattle.fs_peering.specs.declared.joined.InFlight.{InFlight}

abbrev pub flow : (to_first to_second first_read second_read : ℕ) → InFlight
flow to_first to_second first_read second_read =
    record { to_first = to_first; to_second = to_second; first_read = first_read; second_read = second_read }

abbrev pub no_flow : InFlight
no_flow = flow 0 0 0 0

-- the first end heard so many octets and said so many
abbrev pub first_heard : (count said : ℕ) → InFlight → InFlight
first_heard count said now = flow (now.to_first - count) (now.to_second + said) (now.first_read + count) now.second_read

abbrev pub second_heard : (count said : ℕ) → InFlight → InFlight
second_heard count said now = flow (now.to_first + said) (now.to_second - count) now.first_read (now.second_read + count)

-- the second end said so many unasked
abbrev pub second_said : ℕ → InFlight → InFlight
second_said said now = flow (now.to_first + said) now.to_second now.first_read now.second_read
