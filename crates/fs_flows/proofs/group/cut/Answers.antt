use Rattle.fs_flows.proofs.Words.{sym, ap, subst, ◌∙◌, arith, flat, IsCut}
use Rattle.fs_flows.proofs.Cutting.{sorted_each, sorted_at, can_cut, border_at, flat_cut, cut_cut, either_way}
use Rattle.fs_flows.proofs.group.cut.Goals as goal

pub border-place-requires : goal.border-place-requires
border-place-requires c = sorted_at c.args.blocks.now.items c.args.number c.index-2.result.now (sorted_each c.args.blocks.now.items c.requires.sorted)
    c.requires.number c.index-2.ensures

pub cut_at-requires-clause-place : goal.cut_at-requires-clause-place
cut_at-requires-clause-place c =
    can_cut c.args.blocks.now.items c.args.number c.border-place.result c.index-2.result.now c.requires.number c.index-2.ensures
    (omega (arith, c.border-place.ensures.inside c.if-place-gt0.true))

pub returns-then-place-gt0-clause-same : goal.returns-then-place-gt0-clause-same
returns-then-place-gt0-clause-same c =
    either_way c.cut_at.result _ _ _ c.cut_at.ensures.ok c.cut_at.ensures.err (λ e. ap flat e
    ∙ flat_cut c.args.blocks.now.items c.args.number c.border-place.result) (λ e. ap flat e)

pub returns-then-place-gt0-clause-cut : goal.returns-then-place-gt0-clause-cut
returns-then-place-gt0-clause-cut c = either_way c.cut_at.result _ _ _ c.cut_at.ensures.ok c.cut_at.ensures.err
    (λ e. subst IsCut (sym e) (cut_cut c.args.blocks.now.items c.args.number c.border-place.result
    (border_at c.args.blocks.now.items c.args.number c.border-place.result c.index-2.result.now c.requires.number c.index-2.ensures
    c.if-place-gt0.true (c.border-place.ensures.inside c.if-place-gt0.true) c.border-place.ensures.apart) c.requires.cut))
    (λ e. subst IsCut (sym e) c.requires.cut)
