use Rattle.std.proofs.Common.{◌∙◌}
use Rattle.fs_unicast.proofs.{Finding.{shows_first}, Nearest.{first_ahead}}
use Rattle.fs_unicast.proofs.beside.first_from.Goals as goal

pub returns-clause-found : goal.returns-clause-found
returns-clause-found c = shows_first (λ r. (r.0.now, r.1.now)) c.range.result c.next.new.self c.next.result c.next.ensures.steps
    ∙ first_ahead (λ r. r.0) c.args.paths.now.entries c.args.place.now c.range.result (c.range.ensures.between tt)
