use Rattle.fs_speaker.proofs.{Words.{rules, on_ok_weaker}, Waking.{ticks_on, ticks_shut}}
use Rattle.fs_speaker.proofs.end.tick.Goals as goal

pub returns-in-Ok-clause-ticks : goal.returns-in-Ok-clause-ticks
returns-in-Ok-clause-ticks g c =
    ticks_on (g.E.End.machine c.args.end.now) c.args.moment (g.E.End.line c.args.end.now) (g.E.End.line c.wake.new.self) c.args.out.now.items
    c.wake.new.out.items c.wake.result
    (search rules) c.wake.ensures.again c.wake.ensures.closed c.wake.ensures.exact

pub returns-in-Err-clause-ticks : goal.returns-in-Err-clause-ticks
returns-in-Err-clause-ticks g c =
    on_ok_weaker c.closes.result
    (λ other.
    ticks_shut (g.E.End.machine c.args.end.now) c.args.moment (g.E.End.line c.args.end.now) (g.E.End.line c.wake.new.self) c.args.out.now.items
    c.wake.new.out.items c.in-Err.why c.wake.result
    (search rules) other c.wake.ensures.again c.wake.ensures.closed c.wake.ensures.exact)
    c.closes.ensures
