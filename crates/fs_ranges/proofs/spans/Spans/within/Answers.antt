use Rattle.fs_ranges.proofs.{Words.{◌∙◌, subst, AreApart}, Enclosing.{all_within, decides}}
use Rattle.fs_ranges.proofs.spans.Spans.within.Goals as goal

pub returns : goal.returns
returns c =
    decides c.all_enclosed.result c.args.self.now c.args.other.now (subst (AreApart 0) c.self.view_is c.self.invariant)
    (subst (AreApart 0) c.other.view_is c.other.invariant)
    (c.all_enclosed.ensures ∙ (λ i. all_within ((c.deref.ensures.value ∙ c.self.view_is) i) ((c.deref-2.ensures.value ∙ c.other.view_is) i)))
