use Rattle.fs_line.proofs.{Walks.{others_of, others_of-append, others_of-one}, Outputs.{item, sends_as, sends_kept, sends_more, sends_none, sends_within}}
use Rattle.fs_line.proofs.line.write_others.Goals as goal

pub returns-in_err-make_room : goal.returns-in_err-make_room
returns-in_err-make_room g c =
    sends_within (item others_of others_of-append c.args.others.now c.loop-rule.rule-index c.rule-item.result c.loop-rule-test.true) _
    c.from_residual.result c.from_residual.ensures.1 c.loop-rule.invariant (sends_none _ c.in_err-make_room.ensures.sends)

pub loop-rule-preserved : goal.loop-rule-preserved
loop-rule-preserved g c =
    sends_more (item others_of others_of-append c.args.others.now c.loop-rule.rule-index c.rule-item.result c.loop-rule-test.true) c.loop-rule.invariant
    (sends_as (others_of-one c.rule-item.result _ c.rule-item.is) (sends_kept c.in_ok-make_room.ensures.sends c.keep_other.ensures.text))
