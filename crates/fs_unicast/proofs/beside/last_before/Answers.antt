use Rattle.std.proofs.Common.{◌∙◌}
use Rattle.fs_unicast.proofs.{Finding.{shows_last}, Nearest.{last_ahead}}
use Rattle.fs_unicast.proofs.beside.last_before.Goals as goal

pub returns-clause-found : goal.returns-clause-found
returns-clause-found c = shows_last (λ r. (r.0.now, r.1.now)) c.range.result c.next_back.new.self c.next_back.result c.next_back.ensures.steps
    ∙ last_ahead (λ r. r.0) c.args.paths.now.entries c.args.place.now c.range.result (c.range.ensures.between tt)
