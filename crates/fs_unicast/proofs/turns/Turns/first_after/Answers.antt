use Rattle.std.proofs.Common.{◌∙◌}
use Rattle.fs_unicast.proofs.{Finding.{shows_first}, Nearest.{first_behind}}
use Rattle.fs_unicast.proofs.turns.Turns.first_after.Goals as goal

pub returns-clause-found : goal.returns-clause-found
returns-clause-found c = c.copied.ensures ∙ shows_first (λ t. t.now) c.range.result c.next.new.self c.next.result c.next.ensures.steps
    ∙ first_behind (λ t. t) c.args.self.now.places.keys c.args.place.now c.range.result (c.range.ensures.between tt)
