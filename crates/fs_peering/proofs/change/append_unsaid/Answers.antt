use Rattle.fs_peering.proofs.Words.{ℕ, List, ◌-◌, length, take, drop, Sent}
use Rattle.fs_peering.proofs.ChangeParts.{all_behind, counted_behind, headed, passed_behind, unsaid_behind}
use Rattle.fs_speaker.specs.Sending.{text_by}
use Rattle.fs_peering.proofs.change.append_unsaid.Goals as goal

pub loop-rest-preserved : goal.loop-rest-preserved
loop-rest-preserved c =
    let rest : List Sent = c.loop-rest.rest.now in
    let others : List Sent = take (length rest - 1) (drop 1 rest) in
    let text : Sent → List ℕ = text_by c.args.terms.now c.args.numbers.now in
    let whole = headed _ _ c.in-len1-up.len_at_least c.first-item.is in
    record {
      fit = all_behind _ _ _ _ whole c.loop-rest.invariant.fit;
      text =
          unsaid_behind _ _ _ _ _ _ _ _ _ whole c.in_ok-text.ensures c.in_ok-count.ensures.text c.loop-rest.invariant.text;
      counted =
          counted_behind _ _ _ _ _ _ _ _ _ whole c.in_ok-text.ensures c.in_ok-count.ensures.count c.loop-rest.invariant.counted;
      passed =
          passed_behind c.args.said.now _ _ _ c.in_ok-text.text.items _ _ _ whole
          c.in_ok-count.ensures.count c.loop-rest.invariant.passed;
    }
