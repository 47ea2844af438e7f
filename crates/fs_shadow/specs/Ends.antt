-- The lowest and the highest number with some bits known: n of them above the k lowest, below the o highest.
use Rattle.std.specs.Prelude.{ℕ, ◌+◌, ◌-◌, ◌*◌, ◌^◌}

-- the others are 0
abbrev pub lowest_with : (k bits : ℕ) → ℕ
lowest_with k bits = bits * 2 ^ k

-- the others are 1
abbrev pub highest_with : (o n k bits : ℕ) → ℕ
highest_with o n k bits = ((2 ^ o - 1) * 2 ^ n + bits) * 2 ^ k + (2 ^ k - 1)
