use Rattle.fs_shadow.proofs.{Words.{◌∙◌, are_implied}, AtPoints.{marks_tell}}
use Rattle.fs_shadow.proofs.points.numbers_lie_in.Goals as goal

pub returns : goal.returns
returns c =
    c.are_implied.ensures
    ∙ (λ i. are_implied c.args.inner.now c.args.outer.now (c.pairs.ensures.value i) (c.pairs-2.ensures.value i))
    ∙ marks_tell c.args.inner.now c.args.outer.now c.pairs.ensures.normal c.pairs-2.ensures.normal
