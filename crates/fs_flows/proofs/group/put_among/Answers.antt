use Rattle.fs_flows.proofs.Words.{◌<◌, sym, ap, subst, ◌∙◌, not, length, set, arith, common_steps, FlowRoute, AreSorted, routes_of, flat, IsCut}
use Rattle.fs_flows.proofs.Cutting.{sorted_each, sorted_at, around_from, flat_put, cut_put, sorted_put, any_block}
use Rattle.fs_flows.proofs.group.put_among.Goals as goal

pub put-requires : goal.put-requires
put-requires c = sorted_at c.args.blocks.now.items c.block_of-number.result c.index_mut.result.now
    (sorted_each c.args.blocks.now.items c.requires.sorted) inside c.index_mut.ensures.value where
      inside : c.block_of-number.result < length c.args.blocks.now.items
      inside = grind (arith, common_steps)

pub cut-requires-clause-cut : goal.cut-requires-clause-cut
cut-requires-clause-cut c = subst (λ b. IsCut (set c.args.blocks.now.items c.block_of-number.result b)) (sym c.in_ok-is_new.ensures.ok)
    (cut_put c.args.k c.args.blocks.now.items c.block_of-number.result c.index_mut.result.now c.index_mut.ensures.value
    (around_from c.args.k.route.rule c.route.result.now.rule c.args.blocks.now.items c.deref.result.now c.block_of-number.result
    c.block_of-number.ensures.place (ap (λ (r : FlowRoute). r.rule) c.route.ensures) c.deref.ensures.value
    (grind (arith, common_steps)) c.requires.cut c.requires.sorted) c.requires.cut)

pub cut-requires-clause-sorted : goal.cut-requires-clause-sorted
cut-requires-clause-sorted c =
    subst (λ b. AreSorted (routes_of (flat (set c.args.blocks.now.items c.block_of-number.result b)))) (sym c.in_ok-is_new.ensures.ok)
    (sorted_put c.args.k c.args.blocks.now.items c.block_of-number.result c.index_mut.result.now c.index_mut.ensures.value
    (around_from c.args.k.route.rule c.route.result.now.rule c.args.blocks.now.items c.deref.result.now c.block_of-number.result
    c.block_of-number.ensures.place (ap (λ (r : FlowRoute). r.rule) c.route.ensures) c.deref.ensures.value
    (grind (arith, common_steps)) c.requires.cut c.requires.sorted) c.requires.sorted)

pub returns-clause-ok : goal.returns-clause-ok
returns-clause-ok c = c.cut.ensures.same ∙ ap (λ b. flat (set c.args.blocks.now.items c.block_of-number.result b)) c.in_ok-is_new.ensures.ok
    ∙ flat_put c.args.k c.args.blocks.now.items c.block_of-number.result c.index_mut.result.now c.index_mut.ensures.value
    (around_from c.args.k.route.rule c.route.result.now.rule c.args.blocks.now.items c.deref.result.now c.block_of-number.result
    c.block_of-number.ensures.place (ap (λ (r : FlowRoute). r.rule) c.route.ensures) c.deref.ensures.value
    (grind (arith, common_steps)) c.requires.cut c.requires.sorted)

pub returns-clause-fresh : goal.returns-clause-fresh
returns-clause-fresh c = c.in_ok-is_new.ensures.fresh
    ∙ ap not (any_block c.args.k.route.rule c.args.k.route.peer c.args.blocks.now.items c.block_of-number.result c.index_mut.result.now
    c.index_mut.ensures.value
    (around_from c.args.k.route.rule c.route.result.now.rule c.args.blocks.now.items c.deref.result.now c.block_of-number.result
    c.block_of-number.ensures.place (ap (λ (r : FlowRoute). r.rule) c.route.ensures) c.deref.ensures.value
    (grind (arith, common_steps)) c.requires.cut c.requires.sorted))
