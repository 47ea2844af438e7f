use Rattle.fs_nlri.proofs.Words.{◌≡◌, drop, parts_of, rises}
use Rattle.fs_nlri.proofs.given.rise.Given as goal

abbrev pub invariant-loop-component : goal.invariant-loop-component
invariant-loop-component l = rises l.last (parts_of (drop l.component-index l.components)) ≡ rises 0 (parts_of l.components)
