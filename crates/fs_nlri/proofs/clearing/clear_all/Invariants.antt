use Rattle.fs_nlri.proofs.Words.{◌≡◌, parts_of, cleared_parts}
use Rattle.fs_nlri.proofs.clearing.clear_all.Given as goal

abbrev pub invariant-loop-component : goal.invariant-loop-component
invariant-loop-component l = parts_of l.list.items ≡ cleared_parts l.family (parts_of l.yielded)
