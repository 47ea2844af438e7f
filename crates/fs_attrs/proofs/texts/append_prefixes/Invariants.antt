use Rattle.fs_attrs.proofs.Words.{◌≡◌, ◌++◌, take, map, shown, prefixes_text}
use Rattle.fs_attrs.proofs.texts.append_prefixes.Given as goal

abbrev pub invariant-loop-prefix : goal.invariant-loop-prefix
invariant-loop-prefix l = l.out.items ≡ l.initial.out.items ++ prefixes_text (map shown (take l.prefix-index l.prefixes))
