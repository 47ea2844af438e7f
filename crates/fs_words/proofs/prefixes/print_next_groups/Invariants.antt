use Rattle.fs_words.proofs.Words.{◌≡◌, ◌++◌, drop, flat_map, string_bytes, next_group}
use Rattle.fs_words.proofs.prefixes.print_next_groups.Given as goal

-- with what is left, all is there
abbrev pub invariant-loop-group : goal.invariant-loop-group
invariant-loop-group l = string_bytes l.out ++ flat_map next_group (drop l.group-index l.groups) ≡ string_bytes l.fn.out ++ flat_map next_group l.groups
