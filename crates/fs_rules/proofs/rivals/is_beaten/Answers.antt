use Rattle.fs_rules.proofs.Words.{◌<◌, ◌+◌, ◌-◌, sym, ap, ◌∙◌, length, take, drop, FlowRoute, place_in, tail_is}
use Rattle.fs_rules.proofs.{Stepping.{rest_is}, Runs.{run_starts, run_over}}
use Rattle.fs_rules.proofs.rivals.is_beaten.Goals as goal

pub loop-s-init : goal.loop-s-init
loop-s-init c = run_starts c.args.k.now c.args.kept.now _ c.start_of-start.result (tail_is c.args.kept.now c.start_of-start.result)
    (c.start_of-start.ensures.start ∙ ap (λ (r : FlowRoute). place_in r.rule 0 c.args.kept.now) c.route.ensures)

pub returns-then-not-is_same_rule : goal.returns-then-not-is_same_rule
returns-then-not-is_same_rule c =
    sym (run_over c.args.k.now c.s-item.result c.args.kept.now
    (take (length c.args.kept.now - c.start_of-start.result) (drop c.start_of-start.result c.args.kept.now))
    (drop (c.loop-s.s-index + 1) (take (length c.args.kept.now - c.start_of-start.result) (drop c.start_of-start.result c.args.kept.now)))
    c.start_of-start.result c.loop-s.s-index c.requires (tail_is c.args.kept.now c.start_of-start.result) (c.start_of-start.ensures.start
    ∙ ap (λ (r : FlowRoute). place_in r.rule 0 c.args.kept.now) c.route.ensures) (rest_is _ c.loop-s.s-index c.s-item.result inside c.s-item.is)
    (sym c.is_same_rule.ensures ∙ c.if-not-is_same_rule.true)) ∙ c.loop-s.invariant where
      inside : c.loop-s.s-index < length (take (length c.args.kept.now - c.start_of-start.result) (drop c.start_of-start.result c.args.kept.now))
      inside = c.loop-s-test.true
