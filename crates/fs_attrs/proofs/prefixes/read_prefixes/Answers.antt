use Rattle.fs_attrs.proofs.Words.{List, sym, ap, ◌∙◌, map, map_push, Prefix, parts_of, shown, Shown, first_prefix}
use Rattle.fs_attrs.proofs.{PartSizes.{prefix_shrinks}, PartLists.{behind, gathered_more, gathered_all, if_whole}}
use Rattle.fs_attrs.proofs.prefixes.read_prefixes.Goals as goal

pub loop-prefix-preserved : goal.loop-prefix-preserved
loop-prefix-preserved c =
    let pushed = ap (λ (z : List Prefix). map shown z) c.in_ok-push.ensures.items ∙ map_push shown c.loop-prefix.prefixes.items c.in-Some.prefix in
    ap (λ (z : List Shown). behind z (parts_of (first_prefix c.args.family) c.in-Some.behind.now)) pushed
    ∙ gathered_more (first_prefix c.args.family) (prefix_shrinks c.args.family) (map shown c.loop-prefix.prefixes.items) c.loop-prefix.rest.now
    (shown c.in-Some.prefix, c.in-Some.behind.now) (sym c.in-Some.ensures)
    ∙ c.loop-prefix.invariant

pub returns : goal.returns
returns c =
    c.list_at_end.ensures
    ∙ ap if_whole (sym (gathered_all (first_prefix c.args.family) (map shown c.loop-prefix.prefixes.items) c.loop-prefix.rest.now
    (sym c.in_default.ensures)) ∙ c.loop-prefix.invariant)
