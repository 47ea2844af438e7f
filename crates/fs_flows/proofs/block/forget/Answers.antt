use Rattle.fs_flows.proofs.Words.{rules, is_of_other}
use Rattle.std.proofs.lemmas.Fn.{filter_same}
use Rattle.fs_flows.proofs.block.forget.Goals as goal

pub returns : goal.returns
returns c = filter_same _ (is_of_other c.args.peer) _ (λ x b f' k. search rules) _ _ c.retain.ensures.filtered
