use Rattle.fs_nlri.proofs.{Words.{subst, parts_of, Ruled, ruled, AreSound}, Sound.{rule_sound}}
use Rattle.fs_nlri.proofs.rule.Rule.components.Goals as goal

pub returns-clause-sound : goal.returns-clause-sound
returns-clause-sound c =
    subst (λ (rule : Ruled). AreSound rule.parts) c.self.view_is
    (rule_sound (ruled c.self.inside.family (parts_of c.self.inside.components.items)) c.self.invariant)
