use Rattle.fs_base.proofs.{Words.{rules, arith, PassesIn}, Filled.{dropped_more, fills_in, fills_more}, Passing.{passes_in}}
use Rattle.fs_base.proofs.filling.fill.Goals as goal

pub returns-in-Ok-fill_rest : goal.returns-in-Ok-fill_rest
returns-in-Ok-fill_rest g c =
    let read = c.in-Ok.ensures in
    let one : PassesIn g.F.Files c.args.files.now c.read.new.files c.args.counted.now c.read.new.self = search rules in
    fills_in (search rules) (dropped_more _ _ _ _ _ read.back c.in-Ok-fill_rest.ensures.back)
    (λ told.
    let more = rw (read.kept_slot, read.kept_limit, read.taken) at (c.in-Ok-fill_rest.ensures.filled told) in
    fills_more _ _ _ _ _ _ _ _ _ (record { room = search rules; split = (read.left told).0 }) (search rules)
    (omega (arith, read.taken, read.kept_limit, c.read.new.self.within)) more)
    (passes_in one c.fill_rest.ensures.passes)

pub returns-in-Err : goal.returns-in-Err
returns-in-Err g c =
    let one : PassesIn g.F.Files c.args.files.now c.read.new.files c.args.counted.now c.read.new.self = search rules in
    let both = passes_in one c.fill_rest.ensures.passes in
    search rules
