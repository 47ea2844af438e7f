use Rattle.fs_desk.proofs.Words.{◌≡◌, [], Changes, same, rules_taken, Tells}
use Rattle.fs_desk.proofs.apply.withdraw_rules.Given as goal

abbrev pub invariant-loop-rule : goal.invariant-loop-rule
invariant-loop-rule l = record {
  changes : Changes l.peer same (rules_taken l.yielded) l.fn.watched.table l.watched.table;
  told : Tells l.fn.watched l.watched;
  idle : l.yielded ≡ [] → l.watched ≡ l.fn.watched;
}
