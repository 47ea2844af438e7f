use Rattle.fs_compile.proofs.Words.{◌≡◌, length, take, ◌∙◌, length-take-le, arith, length-map, all_admitted, shown_lent, StandsFor, each_pushed}
use Rattle.fs_compile.proofs.Indexing.{stand_size}
use Rattle.fs_compile.proofs.index.compiled_rules.Goals as goal

pub loop-admitted-preserved : goal.loop-admitted-preserved
loop-admitted-preserved c =
    each_pushed (λ r f. StandsFor r.rule f) shown_lent c.args.list.now c.loop-admitted.admitted-index c.admitted-item.result
    c.loop-admitted.rules.items c.push.new.self.items c.in_ok-of.field-0
    (omega (arith, c.loop-admitted-test.true)) c.admitted-item.is c.in_ok-push.ensures.items c.loop-admitted.invariant c.in_ok-of.ensures

pub returns-clause-size : goal.returns-clause-size
returns-clause-size c =
    stand_size (all_admitted (take c.loop-admitted.admitted-index c.args.list.now)) c.loop-admitted.rules.items c.loop-admitted.invariant
    ∙ length-map (take c.loop-admitted.admitted-index c.args.list.now) shown_lent
    ∙ length-take-le c.loop-admitted.admitted-index c.args.list.now (omega (arith, whole)) ∙ whole where
      whole : c.loop-admitted.admitted-index ≡ length c.args.list.now
      whole = omega (arith, c.loop-admitted-test.false, c.loop-admitted.auto.admitted-index-end)
