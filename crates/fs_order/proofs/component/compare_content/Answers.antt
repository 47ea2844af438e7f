use Rattle.fs_order.proofs.{Words.{ap, ap₂, ◌∙◌, slice_cmp, content_body}, Pairs.{lists_compared, pair_cmp}}
use Rattle.fs_order.proofs.component.compare_content.Goals as goal

pub returns-in-Numbers-Numbers : goal.returns-in-Numbers-Numbers
returns-in-Numbers-Numbers c =
    lists_compared (content_body c.args.a) (content_body c.args.b) c.in-Numbers-Numbers.list.now c.in-Numbers-Numbers.other.now c.cmp.result
    (ap content_body c.in-Numbers-Numbers.is-0) (ap content_body c.in-Numbers-Numbers.is-1) c.requires.a c.requires.b
    (c.cmp.ensures ∙ ap₂ (slice_cmp pair_cmp) c.pairs.ensures.value c.pairs-in-Numbers-Numbers.ensures.value)

pub returns-in-Numbers-Masks : goal.returns-in-Numbers-Masks
returns-in-Numbers-Masks c =
    lists_compared (content_body c.args.a) (content_body c.args.b) c.in-Numbers-Masks.list.now c.in-Numbers-Masks.other.now
    c.cmp-in-Numbers-Masks.result (ap content_body c.in-Numbers-Masks.is-0) (ap content_body c.in-Numbers-Masks.is-1) c.requires.a c.requires.b
    (c.cmp-in-Numbers-Masks.ensures ∙ ap₂ (slice_cmp pair_cmp) c.pairs-in-Numbers-Masks.ensures.value c.pairs-in-Numbers-Masks-2.ensures.value)

pub returns-in-Masks-Numbers : goal.returns-in-Masks-Numbers
returns-in-Masks-Numbers c =
    lists_compared (content_body c.args.a) (content_body c.args.b) c.in-Masks-Numbers.list.now c.in-Masks-Numbers.other.now
    c.cmp-in-Masks-Numbers.result (ap content_body c.in-Masks-Numbers.is-0) (ap content_body c.in-Masks-Numbers.is-1) c.requires.a c.requires.b
    (c.cmp-in-Masks-Numbers.ensures ∙ ap₂ (slice_cmp pair_cmp) c.pairs-in-Masks-Numbers.ensures.value c.pairs-in-Masks-Numbers-2.ensures.value)

pub returns-in-Masks-Masks : goal.returns-in-Masks-Masks
returns-in-Masks-Masks c =
    lists_compared (content_body c.args.a) (content_body c.args.b) c.in-Masks-Masks.list.now c.in-Masks-Masks.other.now c.cmp-in-Masks-Masks.result
    (ap content_body c.in-Masks-Masks.is-0) (ap content_body c.in-Masks-Masks.is-1) c.requires.a c.requires.b
    (c.cmp-in-Masks-Masks.ensures ∙ ap₂ (slice_cmp pair_cmp) c.pairs-in-Masks-Masks.ensures.value c.pairs-in-Masks-Masks-2.ensures.value)
