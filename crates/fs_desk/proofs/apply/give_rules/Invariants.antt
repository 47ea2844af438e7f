use Rattle.fs_desk.proofs.Words.{◌≡◌, [], Changes, same, rules_given, Tells}
use Rattle.fs_desk.proofs.apply.give_rules.Given as goal

abbrev pub invariant-loop-rule : goal.invariant-loop-rule
invariant-loop-rule g l = record {
  changes : Changes l.peer same (rules_given l.yielded l.given.path l.given.actions) l.fn.watched.table l.watched.table;
  told : Tells l.fn.watched l.watched;
  idle : l.yielded ≡ [] → l.watched ≡ l.fn.watched;
}
