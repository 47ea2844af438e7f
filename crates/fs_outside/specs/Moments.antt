-- What clocks in memory answer.
use Rattle.std.specs.Prelude.{ℕ, List, ◌++◌, Option, Some, None, ◌-◌, ◌^◌, length, nat_lt, if◌then◌else◌, take, replicate, get_or}
use Rattle.fs_outside.specs.declared.clocks.{MemClock.{MemClock}, StillClock.{StillClock}}

-- the last of the moments, 0 where there is none
abbrev pub last_of : List ℕ → ℕ
last_of moments = get_or moments (length moments - 1) 0

-- the answer to the call of that number, counted from 0
abbrev pub answer_at : List ℕ → ℕ → ℕ
answer_at moments call = if nat_lt call (length moments) then get_or moments call 0 else last_of moments

-- the answers to so many calls: the moments in turn, and then the last of them again and again
abbrev pub answers_to : List ℕ → ℕ → List ℕ
answers_to moments calls = take calls moments ++ replicate (calls - length moments) (last_of moments)

-- they are told until the count of calls is full
abbrev pub told_answers : List ℕ → ℕ → Option (List ℕ)
told_answers moments calls = if nat_lt calls (2 ^ 64 - 1) then Some (answers_to moments calls) else None

abbrev pub mem_clock_moments : MemClock → List ℕ
mem_clock_moments clock = clock.moments.items

abbrev pub mem_clock_calls : MemClock → ℕ
mem_clock_calls clock = clock.calls

abbrev pub still_clock_calls : StillClock → ℕ
still_clock_calls clock = clock.calls
