use Rattle.fs_flows.proofs.{Words.{rules, is_of_other}, TakingFromGroups.{retained}}
use Rattle.fs_flows.proofs.groups.forget_each.Goals as goal

pub returns-clause-kept : goal.returns-clause-kept
returns-clause-kept c = retained _ (is_of_other c.args.peer) _ (λ p v b w f' k. search rules) _ _ c.retain.ensures.filtered
