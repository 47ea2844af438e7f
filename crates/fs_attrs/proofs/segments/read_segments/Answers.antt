use Rattle.fs_attrs.proofs.Words.{ℕ, List, [], ◌∷◌, ◌++◌, sym, ap, ap₂, ◌∙◌, Segment, parts_of, first_segment, segment, lent_segment}
use Rattle.fs_attrs.proofs.{PartSizes.{segment_shrinks}, PartLists.{behind, gathered_more, gathered_all}}
use Rattle.fs_attrs.proofs.segments.read_segments.Goals as goal

pub loop-segment-preserved : goal.loop-segment-preserved
loop-segment-preserved c =
    let pushed = c.in_ok-push.ensures.items
    ∙ ap₂ (λ (s : List Segment) (n : List ℕ). s ++ segment c.in-Some.segment.form n ∷ []) c.reserve_exact.ensures.items c.in_ok-numbers.ensures in
    ap (λ (z : List Segment). behind z (parts_of (first_segment c.args.four) c.in-Some.behind.now)) pushed
    ∙ gathered_more (first_segment c.args.four) (segment_shrinks c.args.four) c.loop-segment.segments.items c.loop-segment.rest.now
    (lent_segment c.args.four c.in-Some.segment, c.in-Some.behind.now) (sym c.in-Some.ensures)
    ∙ c.loop-segment.invariant

pub returns : goal.returns
returns c =
    c.new.ensures ∙ ap (λ (z : List Segment × List ℕ). z.0)
    (sym (gathered_all (first_segment c.args.four) c.loop-segment.segments.items c.loop-segment.rest.now (sym c.in_default.ensures))
    ∙ c.loop-segment.invariant)
