use Rattle.fs_rules.proofs.Words.{◌≡◌, ◌++◌, map, drop, flat, shown_held, judgement}
use Rattle.fs_rules.proofs.blocks.push_held.Given as goal

abbrev pub invariant-loop-block : goal.invariant-loop-block
invariant-loop-block l = map shown_held l.list.items ++ map judgement (flat (drop l.block-index l.blocks)) ≡ map shown_held l.fn.list.items
    ++ map judgement (flat l.blocks)
