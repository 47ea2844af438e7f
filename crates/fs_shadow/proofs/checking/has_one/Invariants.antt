use Rattle.fs_shadow.proofs.Words.{◌≡◌, drop, list_any, part_of, parts_of, AreSound, part_lies_in}
use Rattle.fs_shadow.proofs.checking.has_one.Given as goal

-- what is left answers for all
abbrev pub invariant-loop-other : goal.invariant-loop-other
invariant-loop-other l = record {
  sound : AreSound (parts_of (drop l.other-index l.others));
  rest : list_any (λ inner. part_lies_in inner (part_of l.component)) (parts_of (drop l.other-index l.others))
      ≡ list_any (λ inner. part_lies_in inner (part_of l.component)) (parts_of l.others);
}
