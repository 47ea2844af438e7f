use Rattle.fs_flows.proofs.{Words.{◌≡◌, ◌≤◌, ◌∙◌, true, sym, subst, covers}, Searching.{last_related, after_related}}
use Rattle.fs_flows.proofs.search.next_related.Goals as goal

pub returns-then-covers : goal.returns-then-covers
returns-then-covers c = last_related c.args.prefix.now c.args.destination.now c.args.shortest c.args.groups.now.entries
    (subst (λ d. covers d c.args.prefix.now ≡ true) c.prefix-here.ensures (sym c.covers.ensures ∙ c.if-covers.true))
    (subst (λ d. d.length ≤ c.args.shortest) c.prefix-here.ensures c.if-here-shortest.true) c.requires

pub returns : goal.returns
returns c = after_related c.args.prefix.now c.args.destination.now c.first_after.result c.args.groups.now.entries c.first_after.ensures
