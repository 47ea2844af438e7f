use Rattle.fs_words.{proofs.Words.{◌≡◌, ◌++◌, drop, flat_map, string_bytes}, specs.Operators.{joined_text}}
use Rattle.fs_words.proofs.operators.print_others.Given as goal

-- with what is left, all is there
abbrev pub invariant-loop-operator : goal.invariant-loop-operator
invariant-loop-operator l = string_bytes l.out ++ flat_map (joined_text l.kind) (drop l.operator-index l.pairs) ≡ string_bytes l.fn.out
    ++ flat_map (joined_text l.kind) l.pairs
