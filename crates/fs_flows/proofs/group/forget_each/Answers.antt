use Rattle.fs_flows.proofs.{Words.{rules, is_of_other}, Cutting.{retained_blocks}}
use Rattle.fs_flows.proofs.group.forget_each.Goals as goal

pub returns : goal.returns
returns c = retained_blocks _ (is_of_other c.args.peer) _ (λ v b f' w k. search rules) _ _ c.retain_mut.ensures.filtered
