use Rattle.fs_desk.proofs.{Idle.{more_than_none}, Words.{refl}, ChangesJoined.{changes_none, rules_taken_more}}
use Rattle.fs_desk.proofs.TableChanges.{rule_taken_to}
use Rattle.fs_desk.proofs.apply.withdraw_rules.Goals as goal

pub loop-rule-preserved : goal.loop-rule-preserved
loop-rule-preserved c = record {
  changes =
      rules_taken_more c.args.peer _ _ _ _ _ c.loop-rule.invariant.changes
      (rule_taken_to c.args.peer c.in-Some.rule c.loop-rule.watched.table c.withdraw_flow_telling.new.self c.withdraw_flow_telling.ensures.removed);
  told = λ base h. c.withdraw_flow_telling.ensures.covers base (c.loop-rule.invariant.told base h);
  idle = λ none. absurd (more_than_none c.loop-rule.yielded c.in-Some.rule none);
}

pub loop-rule-init : goal.loop-rule-init
loop-rule-init c = record { changes = changes_none c.args.peer c.args.watched.now.table; told = λ base h. h; idle = λ none. refl }
