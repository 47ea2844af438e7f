use Rattle.fs_conf.proofs.{Words.{Some, sym, ap, ◌∙◌}, RulesJudging.{numbers_within, numbers_without}}
use Rattle.fs_conf.specs.Fault.{KeyFault}
use Rattle.fs_conf.proofs.rule_faults.numbers_fault.Goals as goal

pub returns-then-is_path : goal.returns-then-is_path
returns-then-is_path c = c.each_number.ensures ∙ sym (numbers_within c.args.items.now c.if-is_path.ensures)

pub returns-else-is_path : goal.returns-else-is_path
returns-else-is_path c = ap (λ (fault : KeyFault). Some fault) c.own_fault.ensures ∙ sym (numbers_without c.args.items.now c.if-is_path.ensures)
