use Rattle.std.proofs.Common.{◌∙◌}
use Rattle.fs_unicast.proofs.{Finding.{shows_last}, Nearest.{last_upto}}
use Rattle.fs_unicast.proofs.turns.Turns.last_upto.Goals as goal

pub returns-clause-found : goal.returns-clause-found
returns-clause-found c = c.copied.ensures ∙ shows_last (λ t. t.now) c.range.result c.next_back.new.self c.next_back.result c.next_back.ensures.steps
    ∙ last_upto (λ t. t) c.args.self.now.places.keys c.args.place.now c.range.result (c.range.ensures.between tt)
