use Rattle.fs_rules.proofs.Words.{◌≡◌, slice_get, drop, flat}
use Rattle.fs_rules.proofs.blocks.held_at.Given as goal

abbrev pub invariant-loop-block : goal.invariant-loop-block
invariant-loop-block l = slice_get (flat (drop l.block-index l.blocks)) l.left ≡ slice_get (flat l.blocks) l.n
