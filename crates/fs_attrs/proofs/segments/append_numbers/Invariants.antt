use Rattle.fs_attrs.proofs.Words.{◌≡◌, ◌++◌, take, flat_map, as_text}
use Rattle.fs_attrs.proofs.segments.append_numbers.Given as goal

abbrev pub invariant-loop-number : goal.invariant-loop-number
invariant-loop-number l = l.out.items ≡ l.initial.out.items ++ flat_map (as_text l.four) (take l.number-index l.numbers)
