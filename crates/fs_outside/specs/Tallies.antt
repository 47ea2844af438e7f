-- The calls on an object in memory, as they are counted, and which of them fail.
use Rattle.std.specs.Prelude.{ℕ, List, Result, Bool, ◌≡◌, ◌+◌, ◌-◌, ◌^◌, min, is_err}
use Rattle.fs_outside.specs.{Outside.{HasCause, fails_at}, declared.tally.Tally.{Tally}}

-- The calls that fail, by their numbers, and the calls and the faults so far. A call moves at most so many octets.
pub record Tallied : Type 0 where
  pub failing : List ℕ
  pub calls : ℕ
  pub faults : ℕ
  pub most : ℕ

abbrev pub tallied : Tally → Tallied
tallied tally = record { failing = tally.failing.items; calls = tally.calls; faults = tally.faults; most = tally.most }

abbrev pub no_calls : List ℕ → Tallied
no_calls failing = record { failing = failing; calls = 0; faults = 0; most = 2 ^ 64 - 1 }

abbrev pub narrowed : ℕ → Tallied → Tallied
narrowed count tally = record tally { most = min tally.most count }

-- the next call fails: its number is listed
abbrev pub fails : Tallied → Bool
fails tally = fails_at tally.failing tally.calls

-- one call more
pub record OneMore (before now : Tallied) : Type 0 where
  pub calls : now.calls ≡ min (before.calls + 1) (2 ^ 64 - 1)
  pub failing : now.failing ≡ before.failing
  pub most : now.most ≡ before.most

-- One call more, which fails exactly where `refuses` says so.
pub record Counts {T E : Type 0} (refuses : Bool) (before now : Tallied) (result : Result T E) : Type 0 where
  pub cause : HasCause before.faults now.faults result
  pub fails : is_err result ≡ refuses
  pub counted : OneMore before now
