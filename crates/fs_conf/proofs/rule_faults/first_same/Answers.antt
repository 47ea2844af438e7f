use Rattle.fs_conf.proofs.{Words.{◌+◌, false, rules, sym, ◌∙◌, arith, has_seen}, RulesJudging.{nothing_seen, same_has, same_next}}
use Rattle.fs_conf.proofs.rule_faults.first_same.Goals as goal

pub loop-place-init : goal.loop-place-init
loop-place-init c = same_has (has_seen c.new-seen.result) (λ rule. false) (nothing_seen c.new-seen.result c.new-seen.ensures.empty) 1 c.args.rules.now

pub loop-place-preserved : goal.loop-place-preserved
loop-place-preserved c =
    sym (same_next (has_seen c.loop-place.seen) (has_seen c.see.new.seen) c.args.rules.now c.loop-place.place
    (c.loop-place.place + 1) c.index-rules-place.result c.in_ok-see.field-0
    (omega (arith, c.loop-place-test.true)) c.index-rules-place.is (omega arith) c.in_ok-see.ensures.fresh (search rules) c.in_ok-see.ensures.seen)
    ∙ c.loop-place.invariant
