use Rattle.fs_desk.proofs.Words.{◌≡◌, [], map, take, shown, Changes, same, taken_of, Tells}
use Rattle.fs_desk.proofs.apply.withdraw_each.Given as goal

abbrev pub invariant-loop-prefix : goal.invariant-loop-prefix
invariant-loop-prefix g l = record {
  changes :
      Changes l.peer (taken_of (map shown (take l.prefix-index l.prefixes))) same l.fn.watched.table l.watched.table;
  told : Tells l.fn.watched l.watched;
  idle : map shown (take l.prefix-index l.prefixes) ≡ [] → l.watched ≡ l.fn.watched;
}
