use Rattle.fs_shadow.proofs.Words.{◌≡◌, drop, max, key_of}
use Rattle.fs_shadow.proofs.outlines.Outline.key.Given as goal

-- the greatest so far and what is left answer for all
abbrev pub invariant-loop-measure : goal.invariant-loop-measure
invariant-loop-measure l = max l.key (key_of (drop l.measure-index l.self.measures.items)) ≡ key_of l.self.measures.items
