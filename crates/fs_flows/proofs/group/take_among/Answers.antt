use Rattle.fs_flows.proofs.Words.{◌≡◌, ◌<◌, true, false, refl, sym, ap, subst, ◌∙◌, length, filter, set, remove, ◌==◌, arith, common_steps, flat}
use Rattle.fs_flows.proofs.Words.{IsCut, is_other_key}
use Rattle.fs_flows.proofs.Cutting.{sorted_each, sorted_at, around_from, flat_take, flat_remove, cut_left, cut_remove, any_block}
use Rattle.fs_flows.proofs.group.take_among.Goals as goal

pub take-held-requires : goal.take-held-requires
take-held-requires c = sorted_at c.args.blocks.now.items c.block_of-number.result c.index_mut-block.result.now
    (sorted_each c.args.blocks.now.items c.requires.sorted) inside c.index_mut-block.ensures.value where
      inside : c.block_of-number.result < length c.args.blocks.now.items
      inside = grind (arith, common_steps)

pub returns-then-is_empty-2-clause-taken : goal.returns-then-is_empty-2-clause-taken
returns-then-is_empty-2-clause-taken c = ap flat c.remove.ensures.items
    ∙ ap (λ b. flat (remove (set c.args.blocks.now.items c.block_of-number.result b) c.block_of-number.result)) c.take-held.ensures.taken
    ∙ flat_remove c.args.blocks.now.items c.block_of-number.result (filter (is_other_key c.args.rule.now c.args.peer) c.index_mut-block.result.now)
    inside size
    ∙ flat_take c.args.rule.now c.args.peer c.args.blocks.now.items c.block_of-number.result c.index_mut-block.result.now
    c.index_mut-block.ensures.value
    (around_from c.args.rule.now c.args.rule.now c.args.blocks.now.items c.deref.result.now c.block_of-number.result c.block_of-number.ensures.place
    refl c.deref.ensures.value (grind (arith, common_steps)) c.requires.cut c.requires.sorted) where
      inside : c.block_of-number.result < length c.args.blocks.now.items
      inside = grind (arith, common_steps)

      size : (length (filter (is_other_key c.args.rule.now c.args.peer) c.index_mut-block.result.now) == 0) ≡ true
      size = ap (λ ks. length ks == 0) (sym c.take-held.ensures.taken) ∙ sym c.is_empty-2.ensures ∙ c.if-is_empty-2.true

pub returns-then-is_empty-2-clause-held : goal.returns-then-is_empty-2-clause-held
returns-then-is_empty-2-clause-held c = c.take-held.ensures.held
    ∙ any_block c.args.rule.now c.args.peer c.args.blocks.now.items c.block_of-number.result c.index_mut-block.result.now
    c.index_mut-block.ensures.value
    (around_from c.args.rule.now c.args.rule.now c.args.blocks.now.items c.deref.result.now c.block_of-number.result c.block_of-number.ensures.place
    refl c.deref.ensures.value (grind (arith, common_steps)) c.requires.cut c.requires.sorted)

pub returns-then-is_empty-2-clause-cut : goal.returns-then-is_empty-2-clause-cut
returns-then-is_empty-2-clause-cut c =
    subst IsCut (sym (c.remove.ensures.items
    ∙ ap (λ b. remove (set c.args.blocks.now.items c.block_of-number.result b) c.block_of-number.result) c.take-held.ensures.taken))
    (cut_remove (is_other_key c.args.rule.now c.args.peer) c.args.blocks.now.items c.block_of-number.result c.index_mut-block.result.now
    c.index_mut-block.ensures.value inside size c.requires.cut) where
      inside : c.block_of-number.result < length c.args.blocks.now.items
      inside = grind (arith, common_steps)

      size : (length (filter (is_other_key c.args.rule.now c.args.peer) c.index_mut-block.result.now) == 0) ≡ true
      size = ap (λ ks. length ks == 0) (sym c.take-held.ensures.taken) ∙ sym c.is_empty-2.ensures ∙ c.if-is_empty-2.true

pub returns-else-is_empty-2-clause-taken : goal.returns-else-is_empty-2-clause-taken
returns-else-is_empty-2-clause-taken c = ap (λ b. flat (set c.args.blocks.now.items c.block_of-number.result b)) c.take-held.ensures.taken
    ∙ flat_take c.args.rule.now c.args.peer c.args.blocks.now.items c.block_of-number.result c.index_mut-block.result.now
    c.index_mut-block.ensures.value
    (around_from c.args.rule.now c.args.rule.now c.args.blocks.now.items c.deref.result.now c.block_of-number.result c.block_of-number.ensures.place
    refl c.deref.ensures.value (grind (arith, common_steps)) c.requires.cut c.requires.sorted)

pub returns-else-is_empty-2-clause-held : goal.returns-else-is_empty-2-clause-held
returns-else-is_empty-2-clause-held c = c.take-held.ensures.held
    ∙ any_block c.args.rule.now c.args.peer c.args.blocks.now.items c.block_of-number.result c.index_mut-block.result.now
    c.index_mut-block.ensures.value
    (around_from c.args.rule.now c.args.rule.now c.args.blocks.now.items c.deref.result.now c.block_of-number.result c.block_of-number.ensures.place
    refl c.deref.ensures.value (grind (arith, common_steps)) c.requires.cut c.requires.sorted)

pub returns-else-is_empty-2-clause-cut : goal.returns-else-is_empty-2-clause-cut
returns-else-is_empty-2-clause-cut c =
    subst (λ b. IsCut (set c.args.blocks.now.items c.block_of-number.result b)) (sym c.take-held.ensures.taken)
    (cut_left (is_other_key c.args.rule.now c.args.peer) c.args.blocks.now.items c.block_of-number.result c.index_mut-block.result.now
    c.index_mut-block.ensures.value size c.requires.cut) where
      size : (length (filter (is_other_key c.args.rule.now c.args.peer) c.index_mut-block.result.now) == 0) ≡ false
      size = ap (λ ks. length ks == 0) (sym c.take-held.ensures.taken) ∙ sym c.is_empty-2.ensures ∙ c.if-is_empty-2.false
