use Rattle.fs_shadow.proofs.Words.{◌≡◌, drop, list_all, list_any, parts_of, AreSound, part_lies_in}
use Rattle.fs_shadow.proofs.checking.each_has_one.Given as goal

-- what is left answers for all
abbrev pub invariant-loop-component : goal.invariant-loop-component
invariant-loop-component l = record {
  sound : AreSound (parts_of (drop l.component-index l.components));
  rest : list_all (λ outer. list_any (λ inner. part_lies_in inner outer) (parts_of l.others)) (parts_of (drop l.component-index l.components))
      ≡ list_all (λ outer. list_any (λ inner. part_lies_in inner outer) (parts_of l.others)) (parts_of l.components);
}
