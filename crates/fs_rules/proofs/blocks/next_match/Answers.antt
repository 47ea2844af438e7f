use Rattle.fs_rules.proofs.Words.{length-append, ◌≡◌, ◌+◌, ◌++◌, sym, ap, subst, ◌∙◌, length, drop, arith, flat, AreEachSorted, chosen_flat, chosen}
use Rattle.fs_rules.proofs.Words.{sorted_each}
use Rattle.fs_rules.proofs.{InParts.{chosen_whole, next_in, next_front, next_back}, Stepping.{rest_is}}
use Rattle.fs_rules.proofs.blocks.next_match.Goals as goal

pub loop-block-init : goal.loop-block-init
loop-block-init c = record {
  found = ap (next_in c.args.view.now c.args.n c.args.first) (chosen_whole c.args.family c.args.blocks.now c.requires.cut);
  number = ap (λ ks. c.args.first + length ks) (chosen_whole c.args.family c.args.blocks.now c.requires.cut);
  sorted = sorted_each c.args.blocks.now c.requires.sorted;
}

pub returns-then-is_some : goal.returns-then-is_some
returns-then-is_some c = next_front c.args.view.now c.args.n c.loop-block.number (chosen c.args.family c.block-item.result)
    (chosen_flat c.args.family (drop (c.loop-block.block-index + 1) c.args.blocks.now)) c.next_match-found.result
    (next_in c.args.view.now c.args.n c.args.first (chosen c.args.family (flat c.args.blocks.now))) (c.next_match-found.ensures
    ∙ ap (λ ks. next_in c.args.view.now c.args.n c.loop-block.number (chosen c.args.family ks)) c.as_slice.ensures) (sym c.is_some.ensures
    ∙ c.if-is_some.true) (ap (next_in c.args.view.now c.args.n c.loop-block.number) (sym step) ∙ c.loop-block.invariant.found) where
      step : chosen_flat c.args.family (drop c.loop-block.block-index c.args.blocks.now) ≡ chosen c.args.family c.block-item.result
          ++ chosen_flat c.args.family (drop (c.loop-block.block-index + 1) c.args.blocks.now)
      step = ap (chosen_flat c.args.family) (rest_is c.args.blocks.now c.loop-block.block-index c.block-item.result c.loop-block-test.true c.block-item.is)

pub loop-block-preserved : goal.loop-block-preserved
loop-block-preserved c = record {
  found = ap (λ m. next_in c.args.view.now c.args.n (c.loop-block.number + m)
      (chosen_flat c.args.family (drop (c.loop-block.block-index + 1) c.args.blocks.now))) counted
      ∙ next_back c.args.view.now c.args.n c.loop-block.number (chosen c.args.family c.block-item.result)
      (chosen_flat c.args.family (drop (c.loop-block.block-index + 1) c.args.blocks.now)) c.next_match-found.result
      (next_in c.args.view.now c.args.n c.args.first (chosen c.args.family (flat c.args.blocks.now))) (c.next_match-found.ensures
      ∙ ap (λ ks. next_in c.args.view.now c.args.n c.loop-block.number (chosen c.args.family ks)) c.as_slice.ensures) (sym c.is_some.ensures
      ∙ c.if-is_some.false) (ap (next_in c.args.view.now c.args.n c.loop-block.number) (sym step) ∙ c.loop-block.invariant.found);
  number = omega (
    arith,
    counted,
    ap length step,
    length-append (chosen c.args.family c.block-item.result) (chosen_flat c.args.family (drop (c.loop-block.block-index + 1) c.args.blocks.now)),
    c.loop-block.invariant.number,
  );
  sorted = (subst AreEachSorted (rest_is c.args.blocks.now c.loop-block.block-index c.block-item.result c.loop-block-test.true c.block-item.is)
      c.loop-block.invariant.sorted).1;
} where
  counted : c.count_admitted-number.result ≡ length (chosen c.args.family c.block-item.result)
  counted = c.count_admitted-number.ensures ∙ ap (λ ks. length (chosen c.args.family ks)) c.as_slice-in-loop-block.ensures

  step : chosen_flat c.args.family (drop c.loop-block.block-index c.args.blocks.now) ≡ chosen c.args.family c.block-item.result
      ++ chosen_flat c.args.family (drop (c.loop-block.block-index + 1) c.args.blocks.now)
  step = ap (chosen_flat c.args.family) (rest_is c.args.blocks.now c.loop-block.block-index c.block-item.result c.loop-block-test.true c.block-item.is)
