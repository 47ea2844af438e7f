use Rattle.fs_conf.proofs.{Words.{sym, ◌∙◌, arith}, Judging.{again_ends, again_found, again_next}}
use Rattle.fs_conf.proofs.faults.first_again.Goals as goal

pub returns-then-is_among : goal.returns-then-is_among
returns-then-is_among c =
    sym (again_found c.args.items.now c.loop-place.place c.number_of_peer.result c.index-items-place.result
    (omega (arith, c.loop-place-test.true)) c.index-items-place.is c.number_of_peer.ensures c.if-is_among.ensures)
    ∙ c.loop-place.invariant

pub loop-place-preserved : goal.loop-place-preserved
loop-place-preserved c =
    sym (again_next c.args.items.now c.loop-place.place c.number_of_peer.result c.index-items-place.result
    (omega (arith, c.loop-place-test.true)) c.index-items-place.is c.number_of_peer.ensures c.if-is_among.ensures)
    ∙ c.loop-place.invariant

pub returns : goal.returns
returns c = sym (again_ends c.args.items.now c.loop-place.place (omega (arith, c.loop-place-test.false))) ∙ c.loop-place.invariant
