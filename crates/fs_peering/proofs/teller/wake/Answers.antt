use Rattle.fs_peering.proofs.{Words.{machine_in, rules, on_ok_weaker, ticks_on, ticks_shut}, Feeding.{woke_over}}
use Rattle.fs_peering.proofs.teller.wake.Goals as goal

pub returns-in-Ok-clause-wakes : goal.returns-in-Ok-clause-wakes
returns-in-Ok-clause-wakes c =
    ticks_on (machine_in c.args.announcer.now) c.args.moment c.args.announcer.now.line c.tick.new.self.line c.args.out.now.items c.tick.new.out.items
    c.tick.result (search rules) (woke_over _ _ _ _ _ c.tick.ensures.again) c.tick.ensures.closed c.tick.ensures.exact

pub returns-in-Err-clause-wakes : goal.returns-in-Err-clause-wakes
returns-in-Err-clause-wakes c =
    on_ok_weaker c.closes.result (λ other. ticks_shut (machine_in c.args.announcer.now) c.args.moment c.args.announcer.now.line
    c.tick.new.self.line c.args.out.now.items c.tick.new.out.items c.in-Err.why c.tick.result (search rules) other
    (woke_over _ _ _ _ _ c.tick.ensures.again) c.tick.ensures.closed c.tick.ensures.exact) c.closes.ensures
