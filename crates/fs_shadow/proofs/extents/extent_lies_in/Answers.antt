use Rattle.fs_shadow.proofs.{Words.{sym, ◌∙◌, extent_lies_in}, Measuring.{spans_tell}}
use Rattle.fs_shadow.proofs.extents.extent_lies_in.Goals as goal

pub returns-in-Numbers-Numbers : goal.returns-in-Numbers-Numbers
returns-in-Numbers-Numbers c =
    spans_tell c.within.result c.in-Numbers-Numbers.inner c.in-Numbers-Numbers.outer c.within.ensures
    ∙ sym (λ i. extent_lies_in (c.in-Numbers-Numbers.is-0 i) (c.in-Numbers-Numbers.is-1 i))
