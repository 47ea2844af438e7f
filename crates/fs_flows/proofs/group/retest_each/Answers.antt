use Rattle.fs_flows.proofs.{Words.{◌↔◌, false, subst, ◌≡◌, map, arith, AllByRecursion, take_all, AreJudged, rejudged}, Mending.{judged_next}}
use Rattle.fs_flows.proofs.group.retest_each.Goals as goal

pub loop-block-preserved : goal.loop-block-preserved
loop-block-preserved c =
    let next = judged_next (map (rejudged c.args.config.now c.args.basis.now)) (AreJudged c.args.config.now c.args.basis.now) c.args.blocks.now
    c.loop-block.blocks c.loop-block.block-index c.block-item.result c.retest-changed.new.self c.loop-block.changed c.retest-changed.result
    (omega arith) (omega arith) c.loop-block.invariant.blocks c.retest-changed.ensures.retested c.loop-block.invariant.told c.retest-changed.ensures.told in
    record { blocks = next.0; told = next.1 }

pub returns-clause-told : goal.returns-clause-told
returns-clause-told c = subst (λ ks. (c.loop-block.changed ≡ false) ↔ AllByRecursion (AreJudged c.args.config.now c.args.basis.now) ks)
    (take_all c.loop-block.block-index c.args.blocks.now (omega arith)) c.loop-block.invariant.told
