use Rattle.fs_ranges.proofs.{Words.{arith, on_ok_weaker}, Grouping.{more_missed, more_ranges}}
use Rattle.fs_ranges.proofs.groups.append_missed.Goals as goal

pub returns-clause-numbers : goal.returns-clause-numbers
returns-clause-numbers c =
    on_ok_weaker c.append_above.result
    (λ e n below. more_missed c.args.missed.now.items c.append_below.new.missed.items c.append_at.new.missed.items c.append_above.new.missed.items
    (c.args.operator, c.args.value) n c.in_ok-append_below.ensures c.in_ok-append_at.ensures e below)
    c.append_above.ensures

pub returns-clause-ranges : goal.returns-clause-ranges
returns-clause-ranges c =
    on_ok_weaker c.append_above.result
    (λ e before. more_ranges c.args.missed.now.items c.append_below.new.missed.items c.append_at.new.missed.items c.append_above.new.missed.items
    (c.args.operator, c.args.value) c.in_ok-append_below.ensures c.in_ok-append_at.ensures e (omega arith) before)
    c.append_above.ensures
