-- The moments of an end of a session, in milliseconds, and what its timers do (RFC 4271, sections 4.4, 6.5 and 10).
use Rattle.std.specs.Prelude.{ℕ, ◌-◌, ◌*◌, ◌==◌, max, nat_le, if◌then◌else◌}
use Rattle.fs_session.specs.declared.{state.State.{State, TheVariants.{WaitOpen}}, times.{Times.{Times}, Tick.{Tick, TheVariants.{Quiet, Keeps, Expires}}}}

-- the greatest moment so far, that of the last message taken, and that of what was last written
abbrev pub times : ℕ → ℕ → ℕ → Times
times greatest taken written = record { greatest = greatest; taken = taken; written = written }

abbrev pub no_times : Times
no_times = times 0 0 0

-- A moment below an earlier one counts as the greatest so far.
abbrev pub at_moment : ℕ → Times → Times
at_moment moment now = times (max now.greatest moment) now.taken now.written

-- A message was taken in this state. What was last written is counted from OPEN on.
abbrev pub taken_in : State → Times → Times
taken_in WaitOpen now = times now.greatest now.greatest now.greatest
taken_in _ now = times now.greatest now.greatest now.written

-- a KEEPALIVE was written
abbrev pub written_now : Times → Times
written_now now = times now.greatest now.taken now.greatest

-- With a hold time of `hold` seconds, 0 for none: it has expired where no message was taken for so long; a KEEPALIVE is
-- due where none was written for a third of it (RFC 4271, section 4.4).
abbrev pub tick_at : ℕ → Times → Tick
tick_at hold now =
    if hold == 0 then Quiet
    else if nat_le (1000 * hold) (now.greatest - now.taken) then Expires
    else if nat_le (1000 * hold) (3 * (now.greatest - now.written)) then Keeps
    else Quiet
