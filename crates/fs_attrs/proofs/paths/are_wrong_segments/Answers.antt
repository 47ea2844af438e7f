use Rattle.fs_attrs.proofs.{Words.{not, sym, ap, ◌∙◌, lent_segment}, AttributeScans.{wrong_found, wrong_more, wrong_end}}
use Rattle.fs_attrs.proofs.paths.are_wrong_segments.Goals as goal

pub returns-then-is_barred : goal.returns-then-is_barred
returns-then-is_barred c =
    sym (wrong_found c.args.terms.now c.loop-segment.rest.now (lent_segment c.args.terms.now.four c.in-Some.segment, c.in-Some.behind.now)
    (sym c.in-Some.ensures) (sym c.is_barred.ensures ∙ c.if-is_barred.true)) ∙ c.loop-segment.invariant

pub loop-segment-preserved : goal.loop-segment-preserved
loop-segment-preserved c =
    sym (wrong_more c.args.terms.now c.loop-segment.rest.now (lent_segment c.args.terms.now.four c.in-Some.segment, c.in-Some.behind.now)
    (sym c.in-Some.ensures) (sym c.is_barred.ensures ∙ c.if-is_barred.false)) ∙ c.loop-segment.invariant

pub returns : goal.returns
returns c =
    ap not c.is_empty.ensures ∙ sym (wrong_end c.args.terms.now c.loop-segment.rest.now (sym c.in_default.ensures)) ∙ c.loop-segment.invariant
