use Rattle.fs_ops.{specs.Evaluation.{test_of}, proofs.Groups.{answers_all}}
use Rattle.fs_ops.proofs.evaluation.eval.Goals as goal

pub loop-operator-init : goal.loop-operator-init
loop-operator-init c = answers_all (test_of c.args.kind c.args.datum) c.args.pairs.now c.requires
