-- What a counted read does to the count, and to the octets that were put back.
use Rattle.std.specs.Prelude.{ℕ, Result, Ok, Err, ◌+◌}

-- so many octets were taken behind a read
abbrev pub taken_after : {E : Type 0} → ℕ → Result ℕ E → ℕ
taken_after taken (Ok n) = taken + n
taken_after taken (Err e) = taken

-- so many octets were given by a read
abbrev pub given_by : {E : Type 0} → Result ℕ E → ℕ
given_by (Ok n) = n
given_by (Err e) = 0
