-- The units in which an interface counts time (the option 'if_tsresol' in the pcapng draft's section 'Interface
-- Description Block').
use Rattle.std.specs.Prelude.{ℕ, ◌-◌, ◌*◌, ◌/◌, ◌^◌, min, nat_lt, if◌then◌else◌}

-- so many units of an interface, in whole nanoseconds, at most 2 to the 64th less 1: units of 10 to the minus `unit`
-- seconds, or, from 128 on, of 2 to the minus its low seven bits
abbrev pub time_of : (unit count : ℕ) → ℕ
time_of unit count =
    min 18446744073709551615
    (if nat_lt unit 128 then count * 1000000000 / 10 ^ unit else count * 1000000000 / 2 ^ (unit - 128))
