use Rattle.fs_nlri.proofs.Words.{◌≡◌, ◌+◌, drop, length, parts_of, canonical_value}
use Rattle.fs_nlri.proofs.size.value_len.Given as goal

abbrev pub invariant-loop-component : goal.invariant-loop-component
invariant-loop-component l = l.len + length (canonical_value (parts_of (drop l.component-index l.components)))
    ≡ length (canonical_value (parts_of l.components))
