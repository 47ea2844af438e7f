use Rattle.std.proofs.Common.{◌∙◌, sym}
use Rattle.fs_unicast.proofs.Fronts.{best_tells}
use Rattle.fs_unicast.proofs.search.others_from.Goals as goal

pub returns-then-is_other_route : goal.returns-then-is_other_route
returns-then-is_other_route c =
    best_tells c.args.routes.now c.args.prefix.now c.args.first.now c.args.local_as c.args.asn _ c.requires.best c.requires.under
    (sym c.is_other_route.ensures ∙ c.if-is_other_route.true)
