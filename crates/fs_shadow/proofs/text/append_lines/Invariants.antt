use Rattle.fs_shadow.proofs.Words.{◌≡◌, ◌++◌, drop, flat_map, covered_line}
use Rattle.fs_shadow.proofs.text.append_lines.Given as goal

abbrev pub invariant-loop-pair : goal.invariant-loop-pair
invariant-loop-pair l =
    l.text.items ++ flat_map (covered_line l.family) (drop l.pair-index l.pairs) ≡ l.fn.text.items ++ flat_map (covered_line l.family) l.pairs
