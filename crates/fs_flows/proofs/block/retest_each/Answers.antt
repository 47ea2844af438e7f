use Rattle.fs_flows.proofs.{Words.{◌↔◌, false, subst, ◌≡◌, arith, take_all, IsJudged, AreJudged, rejudged}, Mending.{judged_next}}
use Rattle.fs_flows.proofs.block.retest_each.Goals as goal

pub loop-k-preserved : goal.loop-k-preserved
loop-k-preserved c =
    let next = judged_next (rejudged c.args.config.now c.args.basis.now) (IsJudged c.args.config.now c.args.basis.now) c.args.kept.now c.loop-k.kept
    c.loop-k.k-index c.k-item.result c.retest-changed.new.k c.loop-k.changed c.retest-changed.result
    (omega arith) (omega arith) c.loop-k.invariant.kept c.retest-changed.ensures.retested c.loop-k.invariant.told c.retest-changed.ensures.told in
    record { kept = next.0; told = next.1 }

pub returns-clause-told : goal.returns-clause-told
returns-clause-told c = subst (λ ks. (c.loop-k.changed ≡ false) ↔ AreJudged c.args.config.now c.args.basis.now ks)
    (take_all c.loop-k.k-index c.args.kept.now (omega arith)) c.loop-k.invariant.told
