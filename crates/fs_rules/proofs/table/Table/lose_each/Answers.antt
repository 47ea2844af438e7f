use Rattle.fs_rules.proofs.Words.{◌≡◌, sym, ◌∙◌, Some, None, held_by}
use Rattle.fs_rules.proofs.Losing.{losing_starts, losing_more, losing_shorter, losing_ends, found_hit, none_left, passed_starts, passed_more}
use Rattle.fs_rules.proofs.Losing.{from_start}
use Rattle.fs_rules.proofs.Quiet.{quiet_starts, quiet_more}
use Rattle.fs_rules.proofs.table.Table.lose_each.Goals as goal

pub loop-prefix-init : goal.loop-prefix-init
loop-prefix-init g c = record {
  losing = losing_starts c.args.peer c.args.self.now c.args.steps.now;
  passed = passed_starts c.args.peer c.args.self.now.unicast;
  covers = λ base h. h;
  quiet = λ stay. quiet_starts c.args.peer c.args.self.now c.args.changes.now stay;
}

pub loop-prefix-smaller : goal.loop-prefix-smaller
loop-prefix-smaller g c = losing_shorter c.args.peer c.loop-prefix.self c.withdraw_unicast_telling.new.self c.in-Some.prefix
    (sym (from_start c.args.peer c.loop-prefix.from c.loop-prefix.self.unicast c.loop-prefix.invariant.passed) ∙ sym c.next_held.ensures.first
    ∙ c.in-Some.is) c.withdraw_unicast_telling.ensures.removed

pub loop-prefix-preserved : goal.loop-prefix-preserved
loop-prefix-preserved g c = record {
  losing = losing_more c.args.peer c.args.self.now c.loop-prefix.self c.withdraw_unicast_telling.new.self c.args.steps.now c.loop-prefix.steps
      c.withdraw_unicast_telling.new.steps c.in-Some.prefix c.loop-prefix.invariant.losing
      (found_hit c.in-Some.prefix c.args.peer c.loop-prefix.self.unicast found) c.withdraw_unicast_telling.ensures.removed
      c.withdraw_unicast_telling.ensures.later c.withdraw_unicast_telling.ensures.steps;
  passed = passed_more c.args.peer c.loop-prefix.self c.withdraw_unicast_telling.new.self c.in-Some.prefix c.next_held.ensures.ordered found
      c.withdraw_unicast_telling.ensures.removed;
  covers = λ base h. c.withdraw_unicast_telling.ensures.covers base (c.loop-prefix.invariant.covers base h);
  quiet = λ stay. quiet_more c.args.peer c.in-Some.prefix c.loop-prefix.self c.withdraw_unicast_telling.new.self c.args.changes.now
      c.loop-prefix.changes c.withdraw_unicast_telling.new.changes c.withdraw_unicast_telling.ensures.removed c.withdraw_unicast_telling.ensures.quiet
      (c.loop-prefix.invariant.quiet stay);
} where
  found : held_by c.loop-prefix.self.unicast c.args.peer None ≡ Some c.in-Some.prefix
  found = sym (from_start c.args.peer c.loop-prefix.from c.loop-prefix.self.unicast c.loop-prefix.invariant.passed) ∙ sym c.next_held.ensures.first
      ∙ c.in-Some.is

pub returns-clause-removed : goal.returns-clause-removed
returns-clause-removed g c = losing_ends c.args.peer c.args.self.now c.loop-prefix.self c.args.steps.now c.loop-prefix.steps
    c.loop-prefix.invariant.losing
    (none_left c.args.peer c.loop-prefix.self.unicast
    (sym (from_start c.args.peer c.loop-prefix.from c.loop-prefix.self.unicast c.loop-prefix.invariant.passed) ∙ sym c.next_held.ensures.first
    ∙ c.in_default.is))

pub returns-clause-quiet : goal.returns-clause-quiet
returns-clause-quiet g c = λ stay. (c.loop-prefix.invariant.quiet stay).same
