use Rattle.std.proofs.Common.{ap₂}
use Rattle.fs_unicast.proofs.{Words.{◌∙◌, ◌&&◌, list_any, is_other, is_within}, Ranges.{place, others_in_range}}
use Rattle.fs_unicast.proofs.search.others_under.Goals as goal

pub returns : goal.returns
returns c = c.others_within.ensures
    ∙ ap₂ (λ p q. list_any (λ r. is_within (place p 0) (place q 0) r.0 && is_other c.args.local_as c.args.asn r.1) c.args.routes.now) c.of.ensures
    c.of-2.ensures
    ∙ others_in_range c.args.prefix.now c.first_under.result c.args.local_as c.args.asn c.args.routes.now c.first_under.ensures
