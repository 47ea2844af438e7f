use Rattle.cmd_enforce.proofs.Words.{ap, ◌∙◌, actions_walked, entries}
use Rattle.std.specs.List.{list_any}
use Rattle.fs_actions.specs.Community.{is_discard}
use Rattle.cmd_enforce.proofs.walk.drops.Goals as goal

pub returns-clause-drops : goal.returns-clause-drops
returns-clause-drops c = λ admitted stands.
    c.discards.ensures
    ∙ ap (λ walked. list_any is_discard (actions_walked (entries walked))) c.deref.ensures.value
    ∙ ap (λ walk. list_any is_discard (actions_walked walk)) (c.walk_packet.ensures.walk admitted stands)
