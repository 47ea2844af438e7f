use Rattle.std.proofs.{Common.{sym, ◌∙◌}, lemmas.{List.{map-id}, Result.{IfOk-weaker}}}
use Rattle.fs_rules.proofs.table.Table.shared.Goals as goal

pub returns-clause-list : goal.returns-clause-list
returns-clause-list c = IfOk-weaker c.list.result _ _ (λ list e. sym (map-id list.items) ∙ e ∙ map-id _) c.list.ensures.list
