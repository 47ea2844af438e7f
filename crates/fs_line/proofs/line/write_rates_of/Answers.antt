use Rattle.fs_line.proofs.{Words.{[], ◌∷◌, sym, ◌∙◌, ap, rates_text}, Outputs.{item, sends_as, sends_more, sends_nothing, sends_within}}
use Rattle.fs_line.proofs.Walks.{rates_text-append, rates_text-one, rates_text-none}
use Rattle.fs_line.proofs.line.write_rates_of.Goals as goal
use Rattle.fs_line.proofs.line.write_rates_of.Goals.{in-Some+in_ok-write_rate, in_default}

pub returns-in_err-write_rate : goal.returns-in_err-write_rate
returns-in_err-write_rate g c =
    let action = c.action-item.result in
    sends_as (ap rates_text c.as_slice-action-items.ensures.value)
    (sends_within (item rates_text rates_text-append c.as_slice-action-items.result.now c.loop-action.action-index action c.loop-action-test.true) _
    c.from_residual.result c.from_residual.ensures.1 c.loop-action.invariant
    (sends_as (rates_text-one action c.in-Some.rate (sym c.in-Some.ensures) ∙ ap (λ one. rates_text (one ∷ [])) c.action-item.is)
    c.in_err-write_rate.ensures))

pub loop-action-preserved : goal.loop-action-preserved
loop-action-preserved g c =
    let action = c.action-item.result in
    let k = item rates_text rates_text-append c.as_slice-action-items.result.now c.loop-action.action-index action c.loop-action-test.true in
    elim c.match-limit.branch [
      | in-Some+in_ok-write_rate w ↦
          rw (w.output-is, w.sink-is)
          (sends_more k c.loop-action.invariant
          (sends_as (rates_text-one action w.in-Some.rate (sym w.in-Some.ensures) ∙ ap (λ one. rates_text (one ∷ [])) c.action-item.is)
          w.in_ok-write_rate.ensures))
      | in_default w ↦
          rw (w.output-is, w.sink-is)
          (sends_nothing k
          (rates_text-none action (sym w.in_default.ensures) ∙ ap (λ one. rates_text (one ∷ [])) c.action-item.is)
          c.loop-action.invariant)
    ]
