use Rattle.fs_shadow.proofs.Words.{◌≡◌, drop, list_all, is_probed}
use Rattle.fs_shadow.proofs.outlines.Outline.is_probed.Given as goal

-- what is left answers for all
abbrev pub invariant-loop-measure : goal.invariant-loop-measure
invariant-loop-measure l = list_all is_probed (drop l.measure-index l.self.measures.items) ≡ list_all is_probed l.self.measures.items
