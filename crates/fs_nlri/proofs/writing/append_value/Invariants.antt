use Rattle.fs_nlri.proofs.Words.{◌≡◌, ◌++◌, take, parts_of, canonical_value}
use Rattle.fs_nlri.proofs.writing.append_value.Given as goal

abbrev pub invariant-loop-component : goal.invariant-loop-component
invariant-loop-component l = l.out.items ≡ l.initial.out.items ++ canonical_value (parts_of (take l.component-index l.components))
