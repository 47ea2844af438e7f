use Rattle.fs_changes.proofs.{Words.{ap, is_gt, tied_itself, rule_total, Act, is_before, is_same}, Leading.{no_lines}, Same.{same_itself}}
use Rattle.fs_changes.proofs.laws.says_nothing.Goals as goal

pub returns : goal.returns
returns c = λ acts. no_lines is_before is_same 0 acts (λ (x : Act). ap is_gt (tied_itself rule_total x.rule)) same_itself
