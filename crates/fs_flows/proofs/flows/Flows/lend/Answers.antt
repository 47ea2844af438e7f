use Rattle.fs_flows.proofs.Words.{ap, ◌∙◌, filter, is_of_family, chosen}
use Rattle.fs_flows.proofs.BothFamilies.{chosen_each, chosen_first, chosen_second, family_first, family_second, lent_family, sorted_first}
use Rattle.fs_flows.proofs.BothFamilies.{sorted_second, sound_at}
use Rattle.fs_flows.proofs.flows.Flows.lend.Goals as goal

pub returns-in-V4-clause-lent : goal.returns-in-V4-clause-lent
returns-in-V4-clause-lent c = lent_family c.args.family c.self.inside.v4 c.args.self.now _ _
    (chosen_first c.args.family c.self.inside.v4 c.self.inside.v6 c.in-V4.is c.self.invariant.0 ∙ ap (chosen c.args.family) c.self.view_is)
    (family_first c.args.family c.self.inside.v4 c.self.inside.v6 c.in-V4.is c.self.invariant.0
    ∙ ap (filter (λ k. is_of_family c.args.family k.route)) c.self.view_is)
    (c.lend.ensures c.args.family (sorted_first c.self.inside.v4 c.self.inside.v6 c.args.self.now c.self.view_is c.requires)
    (sound_at c.args.family _ c.in-V4.is c.self.inside.v4 c.self.invariant.0.first))

pub returns-in-V6-clause-lent : goal.returns-in-V6-clause-lent
returns-in-V6-clause-lent c = lent_family c.args.family c.self.inside.v6 c.args.self.now _ _
    (chosen_second c.args.family c.self.inside.v4 c.self.inside.v6 c.in-V6.is c.self.invariant.0 ∙ ap (chosen c.args.family) c.self.view_is)
    (family_second c.args.family c.self.inside.v4 c.self.inside.v6 c.in-V6.is c.self.invariant.0
    ∙ ap (filter (λ k. is_of_family c.args.family k.route)) c.self.view_is)
    (c.lend-in-V6.ensures c.args.family (sorted_second c.self.inside.v4 c.self.inside.v6 c.args.self.now c.self.view_is c.requires)
    (sound_at c.args.family _ c.in-V6.is c.self.inside.v6 c.self.invariant.0.second))

pub returns-in-V4-clause-rules : goal.returns-in-V4-clause-rules
returns-in-V4-clause-rules c = λ f. chosen_each f c.self.inside.v4 c.self.inside.v6 c.args.self.now c.self.view_is c.self.invariant.0

pub returns-in-V6-clause-rules : goal.returns-in-V6-clause-rules
returns-in-V6-clause-rules c = λ f. chosen_each f c.self.inside.v4 c.self.inside.v6 c.args.self.now c.self.view_is c.self.invariant.0
