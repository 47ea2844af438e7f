use Rattle.std.proofs.Common.{rules, sym, ◌∙◌}
use Rattle.fs_tape.proofs.Difference.{difference_found, difference_same}
use Rattle.fs_tape.proofs.magic.wrong_octet.Goals as goal

pub returns-then-front-place : goal.returns-then-front-place
returns-then-front-place c =
    sym
    (c.loop-place.invariant
    ∙ difference_found c.loop-place.place c.args.magic.now c.args.front.now (search rules) (search rules) (λ same. c.if-front-place.true (sym same)))

pub loop-place-preserved : goal.loop-place-preserved
loop-place-preserved c =
    c.loop-place.invariant
    ∙ difference_same c.loop-place.place c.args.magic.now c.args.front.now (search rules) (search rules) (sym c.if-front-place.false)
