use Rattle.cmd_gen.proofs.Words.{◌≡◌, ◌++◌, ◌∙◌, ℕ, ap, sym, subst, arith, Played, Plays, nobody, behind_pair, pair_behind, step_of, steps, Item}
use Rattle.cmd_gen.proofs.Generating.{played_more, played_none, state_more, state_none, step_is}
use Rattle.cmd_gen.proofs.command.play_steps.Goals as goal

pub steps-init : goal.steps-init
steps-init c = record {
  draws = c.requires.seed ∙ sym (state_none c.args.count);
  played = λ config items p. played_none config items c.args.count c.args.desk.now p;
}

pub steps-preserved : goal.steps-preserved
steps-preserved c = record {
  draws = c.pair-pair.ensures.state ∙ ap behind_pair c.steps.invariant.draws ∙ sym (state_more c.args.count c.steps.counter);
  played = λ config items p. played_more config items c.args.count c.steps.counter c.octets.new.self
      (step nobody config _ (c.steps.invariant.played config items p));
}
  where
    step : Plays (step_of (pair_behind c.args.count c.steps.counter)) c.steps.desk c.octets.new.self
    step = subst (λ (item : Item). Plays item c.steps.desk c.octets.new.self)
        (step_is c.pair-pair.result c.peer.result c.as_slice.result.now c.steps.draws.state c.args.count c.steps.counter
        c.peer.ensures.peer (c.as_slice.ensures ∙ c.update.ensures) c.pair-pair.ensures.pair c.steps.invariant.draws)
        c.in_ok-octets.ensures.played

pub returns-clause-played : goal.returns-clause-played
returns-clause-played c = λ config items p.
    let all : c.steps.counter ≡ c.args.count = omega (arith, c.steps-test.false, c.steps.auto.counter-end) in
    subst (λ (n : ℕ). Played config (items ++ steps c.args.count n) c.steps.desk) all (c.steps.invariant.played config items p)
