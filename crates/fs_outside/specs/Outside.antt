-- What the calls on files, a sink and a wire have in common. Each of these counts its faults, up to 2^64 - 1.
use Rattle.std.specs.{Prelude.{ℕ, List, Result, Bool, ◌≤◌, ◌+◌, ◌-◌, ◌^◌, ◌==◌, min, OnErr}, List.{list_any}}

-- The count rose; at its greatest value it can't, and stands.
abbrev pub Rose : ℕ → ℕ → Type 0
Rose before now = min (before + 1) (2 ^ 64 - 1) ≤ now

-- a call answers a failure only where the count rose in it, and the count never falls
pub record HasCause {T E : Type 0} (before now : ℕ) (result : Result T E) : Type 0 where
  pub later : before ≤ now
  pub failed : OnErr result (Rose before now)

-- The calls that fail are listed by their numbers: behind so many calls, the next one is listed. The first call is number
-- 1, and the count of the calls stops at 2^64 - 1.
abbrev pub fails_at : List ℕ → ℕ → Bool
fails_at failing calls = list_any (λ listed. listed == min (calls + 1) (2 ^ 64 - 1)) failing
