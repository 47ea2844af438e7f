use Rattle.fs_flows.proofs.Searching.{first_over, short_over, nothing_over}
use Rattle.fs_flows.proofs.search.first_over.Goals as goal

pub returns-in_default : goal.returns-in_default
returns-in_default c = nothing_over c.args.prefix.now c.args.apart.now c.requires.behind c.args.groups.now.entries (c.common.ensures.none.0 c.in_default.is)

pub returns-then-both-shortest : goal.returns-then-both-shortest
returns-then-both-shortest c =
    short_over c.args.prefix.now c.args.apart.now c.requires.behind c.in-Some.both c.in-Some.ensures.over.1 c.requires.apart c.in-Some.ensures.over.0
    c.in-Some.ensures.longest
    c.args.shortest c.args.groups.now.entries c.if-both-shortest.true c.requires.shortest

pub returns : goal.returns
returns c = first_over c.args.prefix.now c.args.apart.now c.requires.behind c.in-Some.both c.in-Some.ensures.over.1 c.requires.apart
    c.in-Some.ensures.over.0 c.in-Some.ensures.longest
    c.first_from.result c.args.groups.now.entries c.first_from.ensures
