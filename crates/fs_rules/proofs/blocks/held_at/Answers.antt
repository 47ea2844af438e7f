use Rattle.fs_rules.proofs.Words.{◌≡◌, ◌≤◌, ◌+◌, ◌++◌, sym, ap, subst, ◌∙◌, drop, option_map, slice_get, flat, shown_held, judgement}
use Rattle.fs_rules.proofs.{InParts.{found_front, found_behind, found_back}, Stepping.{rest_is}}
use Rattle.fs_rules.proofs.blocks.held_at.Goals as goal

pub returns-then-is_some : goal.returns-then-is_some
returns-then-is_some c = found_front judgement shown_held c.held_at-found.result c.block-item.result
    (flat (drop (c.loop-block.block-index + 1) c.args.blocks.now)) (flat c.args.blocks.now) c.loop-block.left c.args.n given rest (sym c.is_some.ensures
    ∙ c.if-is_some.true) where
      given : option_map shown_held c.held_at-found.result ≡ option_map judgement (slice_get c.block-item.result c.loop-block.left)
      given = c.held_at-found.ensures ∙ ap (λ ks. option_map judgement (slice_get ks c.loop-block.left)) c.as_slice.ensures

      rest : slice_get (c.block-item.result ++ flat (drop (c.loop-block.block-index + 1) c.args.blocks.now)) c.loop-block.left
          ≡ slice_get (flat c.args.blocks.now) c.args.n
      rest = ap (λ bs. slice_get (flat bs) c.loop-block.left)
          (sym (rest_is c.args.blocks.now c.loop-block.block-index c.block-item.result c.loop-block-test.true c.block-item.is)) ∙ c.loop-block.invariant

pub overflow_sub-left : goal.overflow_sub-left
overflow_sub-left c = subst (λ l. l ≤ c.loop-block.left) (sym c.len-left.ensures)
    (found_behind judgement shown_held c.held_at-found.result c.block-item.result (flat (drop (c.loop-block.block-index + 1) c.args.blocks.now))
    (flat c.args.blocks.now) c.loop-block.left c.args.n given rest (sym c.is_some.ensures ∙ c.if-is_some.false)) where
      given : option_map shown_held c.held_at-found.result ≡ option_map judgement (slice_get c.block-item.result c.loop-block.left)
      given = c.held_at-found.ensures ∙ ap (λ ks. option_map judgement (slice_get ks c.loop-block.left)) c.as_slice.ensures

      rest : slice_get (c.block-item.result ++ flat (drop (c.loop-block.block-index + 1) c.args.blocks.now)) c.loop-block.left
          ≡ slice_get (flat c.args.blocks.now) c.args.n
      rest = ap (λ bs. slice_get (flat bs) c.loop-block.left)
          (sym (rest_is c.args.blocks.now c.loop-block.block-index c.block-item.result c.loop-block-test.true c.block-item.is)) ∙ c.loop-block.invariant

pub loop-block-preserved : goal.loop-block-preserved
loop-block-preserved c = found_back judgement shown_held c.held_at-found.result c.block-item.result
    (flat (drop (c.loop-block.block-index + 1) c.args.blocks.now)) (flat c.args.blocks.now) c.loop-block.left c.args.n given rest c.len-left.result
    (sym c.is_some.ensures ∙ c.if-is_some.false) c.len-left.ensures where
      given : option_map shown_held c.held_at-found.result ≡ option_map judgement (slice_get c.block-item.result c.loop-block.left)
      given = c.held_at-found.ensures ∙ ap (λ ks. option_map judgement (slice_get ks c.loop-block.left)) c.as_slice.ensures

      rest : slice_get (c.block-item.result ++ flat (drop (c.loop-block.block-index + 1) c.args.blocks.now)) c.loop-block.left
          ≡ slice_get (flat c.args.blocks.now) c.args.n
      rest = ap (λ bs. slice_get (flat bs) c.loop-block.left)
          (sym (rest_is c.args.blocks.now c.loop-block.block-index c.block-item.result c.loop-block-test.true c.block-item.is)) ∙ c.loop-block.invariant
