use Rattle.fs_rules.proofs.Words.{sym, subst, rules, is_at, prefix_cmp, AreSorted, flat, routes_of}
use Rattle.fs_flows.proofs.PuttingInGroups.{each_lookup}
use Rattle.fs_rules.proofs.reading.push_admitted_to.Goals as goal

pub push_admitted-requires-in-Some-get : goal.push_admitted-requires-in-Some-get
push_admitted-requires-in-Some-get g c =
    let sorted : AreSorted (routes_of (flat c.blocks-in-Some-get.result.now)) = subst (λ ks. AreSorted (routes_of ks)) (sym c.blocks-in-Some-get.ensures.routes)
    (each_lookup (λ ks. AreSorted (routes_of ks)) (is_at (prefix_cmp c.of.result)) c.args.groups.now.entries c.in-Some-get.group.now c.requires.groups
    (sym c.in-Some-get.ensures.value)) in
    search rules
