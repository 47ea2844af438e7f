use Rattle.fs_conf.proofs.{Words.{◌+◌, sym, ◌∙◌, arith}, Judging.{fault_found, fault_next}}
use Rattle.fs_conf.specs.{Fault.{spot_shown}, RuleFault.{number_fault}}
use Rattle.fs_conf.proofs.rule_faults.each_number.Goals as goal

pub returns-in-Some : goal.returns-in-Some
returns-in-Some c =
    sym (fault_found number_fault c.args.items.now c.loop-place.place (c.loop-place.place + 1) c.index-items-place.result (spot_shown c.in-Some.spot)
    (omega (arith, c.loop-place-test.true)) c.index-items-place.is (omega arith) c.in-Some.ensures)
    ∙ c.loop-place.invariant

pub loop-place-preserved : goal.loop-place-preserved
loop-place-preserved c =
    sym (fault_next number_fault c.args.items.now c.loop-place.place (c.loop-place.place + 1) c.index-items-place.result
    (omega (arith, c.loop-place-test.true)) c.index-items-place.is (omega arith) c.in-None.ensures)
    ∙ c.loop-place.invariant
