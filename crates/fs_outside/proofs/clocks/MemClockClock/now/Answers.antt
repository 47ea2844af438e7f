use Rattle.std.proofs.Common.{rules, ◌≡◌, ◌+◌, ◌-◌, ◌^◌, min}
use Rattle.fs_outside.{specs.Moments.{answer_at, mem_clock_calls, mem_clock_moments}, proofs.Answering.{told_more}}
use Rattle.fs_outside.proofs.clocks.MemClockClock.now.Goals as goal

pub returns-clause-answered : goal.returns-clause-answered
returns-clause-answered c =
    let moments : c.match-get.self.moments ≡ c.args.self.now.moments = search rules in
    let is : c.match-get.moment ≡ answer_at (mem_clock_moments c.args.self.now) (mem_clock_calls c.args.self.now) = search rules in
    let calls : c.saturating_add-self.result ≡ min (mem_clock_calls c.args.self.now + 1) (2 ^ 64 - 1) = search rules in
    rw moments
    (told_more (mem_clock_moments c.args.self.now) (mem_clock_calls c.args.self.now) c.saturating_add-self.result (2 ^ 64 - 1) c.match-get.moment calls is)
