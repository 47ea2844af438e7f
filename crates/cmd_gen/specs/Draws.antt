-- The numbers that the generator draws. The states begin with the seed; the number of a draw is the high half of the
-- state that it comes to.
use Rattle.std.specs.Prelude.{ℕ, zero, suc, ◌+◌, ◌*◌, ◌/◌, ◌%◌, ◌^◌}
use Rattle.cmd_gen.specs.declared.pair.Pair.{Pair}

abbrev pub next_state : ℕ → ℕ
next_state x = (x * 6364136223846793005 + 1442695040888963407) % 2 ^ 64

-- the number that is drawn where the state comes to this
abbrev pub drawn : ℕ → ℕ
drawn x = x / 2 ^ 32

-- the next two numbers from a state on
abbrev pub pair_of : ℕ → Pair
pair_of x = record { first = drawn (next_state x); second = drawn (next_state (next_state x)) }

-- the state after them
abbrev pub behind_pair : ℕ → ℕ
behind_pair x = next_state (next_state x)

-- the state after so many pairs
unfoldable pub behind_pairs : (seed count : ℕ) → ℕ
behind_pairs seed zero = seed
behind_pairs seed (suc count) = behind_pair (behind_pairs seed count)

-- the pair after so many others
abbrev pub pair_behind : (seed count : ℕ) → Pair
pair_behind seed count = pair_of (behind_pairs seed count)
