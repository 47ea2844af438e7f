use Rattle.fs_desk.proofs.Words.{◌≡◌, [], map, take, shown, Changes, same, given_at, Tells}
use Rattle.fs_desk.proofs.apply.give_each.Given as goal

abbrev pub invariant-loop-prefix : goal.invariant-loop-prefix
invariant-loop-prefix g l = record {
  changes :
      Changes l.peer (given_at (map shown (take l.prefix-index l.prefixes)) l.path) same l.fn.watched.table l.watched.table;
  told : Tells l.fn.watched l.watched;
  idle : map shown (take l.prefix-index l.prefixes) ≡ [] → l.watched ≡ l.fn.watched;
}
