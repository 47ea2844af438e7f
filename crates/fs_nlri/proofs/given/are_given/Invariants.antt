use Rattle.fs_nlri.proofs.Words.{◌≡◌, drop, take, parts_of, AreTyped, all_given}
use Rattle.fs_nlri.proofs.given.are_given.Given as goal

abbrev pub invariant-loop-component : goal.invariant-loop-component
invariant-loop-component l = record {
  left : all_given l.family (parts_of (drop l.component-index l.components)) ≡ all_given l.family (parts_of l.components);
  sound : AreTyped l.family (parts_of (take l.component-index l.components));
}
