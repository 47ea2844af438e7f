use Rattle.fs_ranges.proofs.Words.{◌≡◌, true, sym, ap, subst, ◌∙◌, All, compares, holds, are_singles, AreApart, IsRange, contains}
use Rattle.fs_ranges.proofs.Numbering.{singles_apart, singles_same}
use Rattle.fs_ranges.proofs.spans.Spans.of.Goals as goal

pub invariant_of-result : goal.invariant_of-result
invariant_of-result c = subst (AreApart 0) (sym c.in_ok-ranges.ensures.items)
    (singles_apart 0 c.pairs-pairs.result.now singles (subst (All IsRange) c.in_ok-ranges.ensures.items c.in_ok-ranges.ensures.ranges)) where
      singles : are_singles 0 c.pairs-pairs.result.now ≡ true
      singles = sym c.are_singles.ensures ∙ c.if-are_singles.true

pub returns-then-are_singles : goal.returns-then-are_singles
returns-then-are_singles c = λ n _. ap (λ rs. contains rs n) c.in_ok-ranges.ensures.items
    ∙ singles_same 0 c.pairs-pairs.result.now n (sym c.are_singles.ensures ∙ c.if-are_singles.true)
    ∙ ap (holds (compares n)) c.pairs-pairs.ensures.value
