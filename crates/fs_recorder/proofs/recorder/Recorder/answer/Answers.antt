use Rattle.fs_recorder.proofs.{Words.{Err, ap, rules}, Doing.{breaks_answer, breaks_where, does_answer}}
use Rattle.fs_recorder.proofs.recorder.Recorder.answer.Goals as goal

pub returns-then-not-is_closed-clause-answered : goal.returns-then-not-is_closed-clause-answered
returns-then-not-is_closed-clause-answered g c = record { closes = search rules; answers = search rules; settled = search rules }

pub returns-in-Ok-clause-answered : goal.returns-in-Ok-clause-answered
returns-in-Ok-clause-answered g c = record {
  closes = search rules;
  answers = does_answer c.args.seat c.args.self.now.replies _ _ _ _ _ _ c.say.ensures.said _ c.in-Ok.ensures.leaves;
  settled = c.in-Ok.ensures.left;
}

pub returns-in-Err-clause-answered : goal.returns-in-Err-clause-answered
returns-in-Err-clause-answered g c = (
  search rules,
  breaks_answer c.args.seat c.args.self.now.replies _ _ _ _ _ _ c.say.ensures.said (breaks_where (ap Err) c.in-Err.ensures.breaks),
)
