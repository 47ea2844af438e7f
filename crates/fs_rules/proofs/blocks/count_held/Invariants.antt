use Rattle.fs_rules.proofs.Words.{◌≡◌, ◌+◌, length, drop, flat}
use Rattle.fs_rules.proofs.blocks.count_held.Given as goal

abbrev pub invariant-loop-block : goal.invariant-loop-block
invariant-loop-block l = l.count + length (flat (drop l.block-index l.blocks)) ≡ length (flat l.blocks)
