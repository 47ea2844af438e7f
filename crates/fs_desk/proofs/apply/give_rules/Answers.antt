use Rattle.fs_desk.proofs.{Words.{refl}, Idle.{more_than_none}, ChangesJoined.{changes_none, rules_given_more}}
use Rattle.fs_desk.proofs.TableChanges.{rule_given_to}
use Rattle.fs_desk.proofs.apply.give_rules.Goals as goal

pub loop-rule-preserved : goal.loop-rule-preserved
loop-rule-preserved g c = record {
  changes =
      rules_given_more c.args.peer c.in_ok-given.given.path c.in_ok-given.given.actions c.loop-rule.yielded c.in-Some.rule c.args.watched.now.table
      c.loop-rule.watched.table c.put_flow_telling.new.self c.loop-rule.invariant.changes
      (rule_given_to (record { peer = c.args.peer; rule = c.in-Some.rule; path = c.in_ok-given.given.path; actions = c.in_ok-given.given.actions })
      c.loop-rule.watched.table c.put_flow_telling.new.self c.in_ok-put_flow_telling.ensures.ok);
  told = λ base h. c.in_ok-put_flow_telling.ensures.covers base (c.loop-rule.invariant.told base h);
  idle = λ none. absurd (more_than_none c.loop-rule.yielded c.in-Some.rule none);
}

pub loop-rule-init : goal.loop-rule-init
loop-rule-init g c = record {
  changes = rw (c.in_ok-given.ensures.stays) (changes_none c.args.peer c.args.watched.now.table);
  told = rw (c.in_ok-given.ensures.stays, c.make_room.ensures) (λ base h. h);
  idle = λ none. rw (c.in_ok-given.ensures.stays, c.make_room.ensures) refl;
}
