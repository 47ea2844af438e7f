use Rattle.cmd_wire.{proofs.Judging.{answer_kept}, specs.Holding.{content_of}}
use Rattle.fs_base.specs.Gate.{absent}
use Rattle.cmd_wire.proofs.judged.judge.Goals as goal

pub returns-in-Some-clause-kept : goal.returns-in-Some-clause-kept
returns-in-Some-clause-kept c =
    answer_kept c.args.config.now (content_of c.in-Some.holding.now) c.judge_holding.result c.judge_holding.ensures.judged

pub returns-in-None-clause-kept : goal.returns-in-None-clause-kept
returns-in-None-clause-kept c = answer_kept c.args.config.now absent c.refuse.result c.refuse.ensures
