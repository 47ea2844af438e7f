use Rattle.fs_peering.proofs.{Words.{List, ◌-◌, length, take, drop, Sent}, ChangeParts.{all_behind, headed, said_behind}}
use Rattle.fs_speaker.specs.Sending.{text_by}
use Rattle.fs_peering.proofs.change.append_rules.Goals as goal

pub loop-rest-preserved : goal.loop-rest-preserved
loop-rest-preserved c =
    let rest : List Sent = c.loop-rest.rest.now in
    let others : List Sent = take (length rest - 1) (drop 1 rest) in
    let whole = headed _ _ c.in-len1-up.len_at_least c.first-item.is in
    record {
      fit = all_behind _ _ _ _ whole c.loop-rest.invariant.fit;
      text = said_behind (text_by c.args.terms.now c.args.numbers.now) _ _ _ _ _ _ whole c.in_ok-append_rule.ensures
          c.loop-rest.invariant.text;
    }
