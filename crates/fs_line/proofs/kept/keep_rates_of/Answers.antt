use Rattle.fs_line.proofs.{Words.{[], ◌∷◌, ◌++◌, List, ℕ, sym, ◌∙◌, ap, arith, rates_text}, Outputs.{item, kept_more, kept_nothing}}
use Rattle.fs_line.proofs.Walks.{rates_text-append, rates_text-one, rates_text-none}
use Rattle.fs_line.proofs.kept.keep_rates_of.Goals as goal
use Rattle.fs_line.proofs.kept.keep_rates_of.Goals.{in-Some, in_default}

pub loop-action-preserved : goal.loop-action-preserved
loop-action-preserved c =
    let action = c.action-item.result in
    let k = item rates_text rates_text-append c.as_slice-action-items.result.now c.loop-action.action-index action c.loop-action-test.true in
    elim c.match-limit.branch [
      | in-Some w ↦
          rw w.output-is (
            kept_more k c.args.output.now c.loop-action.invariant.0
                (w.keep_rate.ensures.text
                ∙ ap (λ (more : List ℕ). c.loop-action.output ++ more)
                (rates_text-one action w.in-Some.rate (sym w.in-Some.ensures) ∙ ap (λ one. rates_text (one ∷ [])) c.action-item.is)),
            omega (arith, c.loop-action.invariant.1, w.keep_rate.ensures.short),
          )
      | in_default w ↦
          rw w.output-is (
            kept_nothing k c.args.output.now
                (rates_text-none action (sym w.in_default.ensures) ∙ ap (λ one. rates_text (one ∷ [])) c.action-item.is) c.loop-action.invariant.0,
            omega (arith, c.loop-action.invariant.1),
          )
    ]
