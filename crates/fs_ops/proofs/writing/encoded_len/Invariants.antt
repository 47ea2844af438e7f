use Rattle.fs_ops.proofs.Words.{◌≡◌, ◌*◌, ◌≤◌, length, take, canonical}
use Rattle.fs_ops.proofs.writing.encoded_len.Given as goal

abbrev pub invariant-loop-operator : goal.invariant-loop-operator
invariant-loop-operator l = record {
  value : l.len ≡ length (canonical (take l.operator-index l.pairs));
  small : l.len ≤ 9 * l.operator-index;
}
