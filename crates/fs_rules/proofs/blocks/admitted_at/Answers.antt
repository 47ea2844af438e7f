use Rattle.fs_rules.proofs.Words.{◌≡◌, ◌≤◌, ◌+◌, ◌++◌, sym, ap, subst, ◌∙◌, length, drop, option_map, slice_get, flat, AreEachSorted, chosen_flat}
use Rattle.fs_rules.proofs.Words.{chosen, shown_admitted, listing, sorted_each}
use Rattle.fs_rules.proofs.{InParts.{chosen_whole, found_front, found_behind, found_back}, Stepping.{rest_is}}
use Rattle.fs_rules.proofs.blocks.admitted_at.Goals as goal

pub loop-block-init : goal.loop-block-init
loop-block-init c = record {
  found = ap (λ ks. slice_get ks c.args.n) (chosen_whole c.args.family c.args.blocks.now c.requires.cut);
  sorted = sorted_each c.args.blocks.now c.requires.sorted;
}

pub returns-then-is_some : goal.returns-then-is_some
returns-then-is_some c = found_front listing shown_admitted c.admitted_at-found.result (chosen c.args.family c.block-item.result)
    (chosen_flat c.args.family (drop (c.loop-block.block-index + 1) c.args.blocks.now))
    (chosen c.args.family (flat c.args.blocks.now)) c.loop-block.left c.args.n given rest (sym c.is_some.ensures ∙ c.if-is_some.true) where
      given : option_map shown_admitted c.admitted_at-found.result ≡ option_map listing (slice_get (chosen c.args.family c.block-item.result) c.loop-block.left)
      given = c.admitted_at-found.ensures ∙ ap (λ ks. option_map listing (slice_get (chosen c.args.family ks) c.loop-block.left)) c.as_slice.ensures

      rest : slice_get (chosen c.args.family c.block-item.result ++ chosen_flat c.args.family (drop (c.loop-block.block-index + 1) c.args.blocks.now))
          c.loop-block.left ≡ slice_get (chosen c.args.family (flat c.args.blocks.now)) c.args.n
      rest = ap (λ bs. slice_get (chosen_flat c.args.family bs) c.loop-block.left)
          (sym (rest_is c.args.blocks.now c.loop-block.block-index c.block-item.result c.loop-block-test.true c.block-item.is))
          ∙ c.loop-block.invariant.found

pub overflow_sub-left : goal.overflow_sub-left
overflow_sub-left c = subst (λ l. l ≤ c.loop-block.left)
    (sym (c.count_admitted-left.ensures ∙ ap (λ ks. length (chosen c.args.family ks)) c.as_slice-in-loop-block.ensures))
    (found_behind listing shown_admitted c.admitted_at-found.result (chosen c.args.family c.block-item.result)
    (chosen_flat c.args.family (drop (c.loop-block.block-index + 1) c.args.blocks.now))
    (chosen c.args.family (flat c.args.blocks.now)) c.loop-block.left c.args.n given rest (sym c.is_some.ensures ∙ c.if-is_some.false)) where
      given : option_map shown_admitted c.admitted_at-found.result ≡ option_map listing (slice_get (chosen c.args.family c.block-item.result) c.loop-block.left)
      given = c.admitted_at-found.ensures ∙ ap (λ ks. option_map listing (slice_get (chosen c.args.family ks) c.loop-block.left)) c.as_slice.ensures

      rest : slice_get (chosen c.args.family c.block-item.result ++ chosen_flat c.args.family (drop (c.loop-block.block-index + 1) c.args.blocks.now))
          c.loop-block.left ≡ slice_get (chosen c.args.family (flat c.args.blocks.now)) c.args.n
      rest = ap (λ bs. slice_get (chosen_flat c.args.family bs) c.loop-block.left)
          (sym (rest_is c.args.blocks.now c.loop-block.block-index c.block-item.result c.loop-block-test.true c.block-item.is))
          ∙ c.loop-block.invariant.found

pub loop-block-preserved : goal.loop-block-preserved
loop-block-preserved c = record {
  found = found_back listing shown_admitted c.admitted_at-found.result (chosen c.args.family c.block-item.result)
      (chosen_flat c.args.family (drop (c.loop-block.block-index + 1) c.args.blocks.now))
      (chosen c.args.family (flat c.args.blocks.now)) c.loop-block.left c.args.n given rest c.count_admitted-left.result (sym c.is_some.ensures
      ∙ c.if-is_some.false) (c.count_admitted-left.ensures ∙ ap (λ ks. length (chosen c.args.family ks)) c.as_slice-in-loop-block.ensures);
  sorted = (subst AreEachSorted (rest_is c.args.blocks.now c.loop-block.block-index c.block-item.result c.loop-block-test.true c.block-item.is)
      c.loop-block.invariant.sorted).1;
} where
  given : option_map shown_admitted c.admitted_at-found.result ≡ option_map listing (slice_get (chosen c.args.family c.block-item.result) c.loop-block.left)
  given = c.admitted_at-found.ensures ∙ ap (λ ks. option_map listing (slice_get (chosen c.args.family ks) c.loop-block.left)) c.as_slice.ensures

  rest : slice_get (chosen c.args.family c.block-item.result ++ chosen_flat c.args.family (drop (c.loop-block.block-index + 1) c.args.blocks.now))
      c.loop-block.left ≡ slice_get (chosen c.args.family (flat c.args.blocks.now)) c.args.n
  rest = ap (λ bs. slice_get (chosen_flat c.args.family bs) c.loop-block.left)
      (sym (rest_is c.args.blocks.now c.loop-block.block-index c.block-item.result c.loop-block-test.true c.block-item.is))
      ∙ c.loop-block.invariant.found
